-- Which file a text is, and the first fault of a text that is none's (profile: docs/ASSEMBLY.md, "Lines" and "Why a text is refused").
use Rattle.std.specs.Prelude.{◌≡◌, ℕ, ◌<◌, ◌≤◌, ◌^◌, ◌⊎◌, List, [], ◌∷◌, length, map, Some, None, option_to_list}
use Rattle.std.specs.declared.option.Option.{Option}
use Rattle.abc_text_lines.specs.declared.reason.AsmReason.TheVariants as reasons
use Rattle.abc_file_types.specs.declared.classes.Instance.{Instance}
use Rattle.abc_file_types.specs.declared.methods.Metadata.{Metadata}
use Rattle.abc_file_types.specs.declared.tables.Abc.{Abc}
use Rattle.abc_file_types.specs.declared.tables.Sizes.{Sizes}
use Rattle.abc_file_types.specs.declared.traits.TraitInfo.{TraitInfo}
use Rattle.abc_file_types.specs.Classes.{sizes_of}
use Rattle.abc_file_types.specs.Files.{file_bytes}
use Rattle.abc_text_lines.specs.Assembly as rows
use Rattle.abc_text_lines.specs.Law.{Match}
use Rattle.abc_text_lines.specs.Lines.{Row, Shown}
use Rattle.abc_text_lines.specs.Rows.{Fault, Rows, fault}
use Rattle.abc_text_lines.specs.Wordlines.{shows_operands}
use Rattle.abc_text_lines.specs.File.{Outline, faults, file}
use Rattle.abc_text_lines.specs.Lineforms.{InstanceHead}
use Rattle.abc_text_lines.specs.Texts.{instances_in, rows_of, sizes_in}

-- ---- a file as lines have it

-- the entries of metadata, two strings a line
abbrev pub pairs : List ℕ → List (ℕ × ℕ)
pairs [] = []
pairs (a ∷ []) = []
pairs (a ∷ b ∷ items) = (a, b) ∷ pairs items

-- the strings of such pairs, one after the other
abbrev pub flat_pairs : List (ℕ × ℕ) → List ℕ
flat_pairs [] = []
flat_pairs (pair ∷ pairs) = pair.0 ∷ pair.1 ∷ flat_pairs pairs

abbrev pub metadata_lines : Metadata → ℕ × List (ℕ × ℕ)
metadata_lines m = (m.name, pairs m.items)

abbrev pub metadata_of_parts : ℕ × List (ℕ × ℕ) → Metadata
metadata_of_parts x = record { name = x.0; items = flat_pairs x.1 }

abbrev pub first_in : List ℕ → Option ℕ
first_in [] = None
first_in (n ∷ ns) = Some n

abbrev pub initializer_in : Option (ℕ × List TraitInfo) → ℕ × List TraitInfo
initializer_in (Some x) = x
initializer_in None = (0, [])

abbrev pub instance_head : Instance → InstanceHead
instance_head i = record { name = i.name; super_name = i.super_name; flags = i.flags }

abbrev pub instance_parts : Instance → InstanceHead × (List ℕ × (List ℕ × Option (ℕ × List TraitInfo)))
instance_parts i = (instance_head i, (option_to_list i.protected_ns, (i.interfaces, Some (i.iinit, i.traits))))

abbrev pub instance_of_parts : InstanceHead × (List ℕ × (List ℕ × Option (ℕ × List TraitInfo))) → Instance
instance_of_parts x = record {
  name = x.0.name;
  super_name = x.0.super_name;
  flags = x.0.flags;
  protected_ns = first_in x.1.0;
  interfaces = x.1.1.0;
  iinit = (initializer_in x.1.1.1).0;
  traits = (initializer_in x.1.1.1).1;
}

module _ (sizes : Sizes) (instances : ℕ) where
  abbrev pub outline_of : Abc → Outline sizes instances
  outline_of v = (
    (v.ints, (v.uints, (v.doubles, (v.strings, (v.namespaces, (v.sets, v.names)))))),
    (v.methods, (map metadata_lines v.metadata, (map instance_parts v.instances, (v.classes, (v.scripts, v.bodies))))),
  )

  abbrev pub abc_of : Outline sizes instances → Abc
  abc_of x = record {
    ints = x.0.0;
    uints = x.0.1.0;
    doubles = x.0.1.1.0;
    strings = x.0.1.1.1.0;
    namespaces = x.0.1.1.1.1.0;
    sets = x.0.1.1.1.1.1.0;
    names = x.0.1.1.1.1.1.1;
    methods = x.1.0;
    metadata = map metadata_of_parts x.1.1.0;
    instances = map instance_of_parts x.1.1.1.0;
    classes = x.1.1.1.1.0;
    scripts = x.1.1.1.1.1.0;
    bodies = x.1.1.1.1.1.1;
  }

-- ---- the lines of a file

-- the lines of a file with so many entries in its tables and so many instances; how many lines a reader may take doesn't matter for them
abbrev pub file_rows : (v : Abc) → Rows (Outline (sizes_of v) (length v.instances))
file_rows v = file (sizes_of v) (length v.instances) 0

abbrev pub outline : (v : Abc) → Outline (sizes_of v) (length v.instances)
outline v = outline_of (sizes_of v) (length v.instances) v

-- all lines of the one text of a file, without comments
abbrev pub lines_of_file : Abc → List Shown
lines_of_file v = rows.lines_of_value (file_rows v) (outline v)

-- Each entry of the metadata is two strings.
abbrev pub IsMetadataWhole : Abc → Type 0
IsMetadataWhole v = abc_of (sizes_of v) (length v.instances) (outline v) ≡ v

-- The lines are those of a file whose fields are in their ranges.
pub record AreFileLines (lines : List Row) (v : Abc) : Type 0 where
  pub shown : Match shows_operands lines (lines_of_file v)
  pub fits : (file_rows v).fits (outline v)
  pub whole : IsMetadataWhole v

-- The text is one of the file.
pub record IsAssemblyOf (text : List ℕ) (v : Abc) : Type 0 where
  pub listed : AreFileLines (rows_of text) v
  pub short : length (file_bytes v) ≤ 2 ^ 24

-- No line has a fault, and the canonical bytes are too many.
abbrev pub IsTooLong : List ℕ → Fault → Type 0
IsTooLong text f = (v : Abc) × AreFileLines (rows_of text) v × (2 ^ 24 < length (file_bytes v)) × (f ≡ fault 1 reasons.FileTooLong)

-- the least line with a fault and the first reason there, or FileTooLong
abbrev pub IsAssemblyFault : List ℕ → Fault → Type 0
IsAssemblyFault text f =
    let lines = rows_of text in
    rows.IsAssemblyFault (faults (sizes_in lines) (instances_in lines)) (file (sizes_in lines) (instances_in lines) (length lines)) lines f ⊎ IsTooLong text f

-- A text is one of exactly one file, or has exactly one fault, and never both.
pub record HasOneAnswer (text : List ℕ) : Type 0 where
  pub some : ((v : Abc) × IsAssemblyOf text v) ⊎ ((f : Fault) × IsAssemblyFault text f)
  pub one_value : (v w : Abc) → IsAssemblyOf text v → IsAssemblyOf text w → v ≡ w
  pub one_fault : (f g : Fault) → IsAssemblyFault text f → IsAssemblyFault text g → f ≡ g
  pub never_both : (v : Abc) (f : Fault) → IsAssemblyOf text v → IsAssemblyFault text f → ⊥
