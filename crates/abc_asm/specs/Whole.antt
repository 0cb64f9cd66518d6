-- What the assembler answers, and a file as it is read.
use Rattle.std.specs.Prelude.{◌≡◌, ℕ, ℤ, nat_eq, List, [], ◌∷◌, length, Some, None, Ok, Err, if◌then◌else◌}
use Rattle.std.specs.declared.option.Option.{Option}
use Rattle.std.specs.declared.result.Result.{Result}
use Rattle.abc_text_lines.specs.declared.reason.AsmReason.{AsmReason}
use Rattle.abc_text_lines.specs.declared.reason.AsmReason.TheVariants as reasons
use Rattle.abc_text_lines.specs.declared.word.Word.{Word}
use Rattle.abc_text_lines.specs.declared.word.Word.TheVariants as words
use Rattle.abc_text_lines.specs.Reasons.{least}
use Rattle.abc_text_lines.specs.Words.{place_of}
use Rattle.abc_file_types.specs.declared.classes.ClassInfo.{ClassInfo}
use Rattle.abc_file_types.specs.declared.classes.Instance.{Instance}
use Rattle.abc_file_types.specs.declared.classes.Script.{Script}
use Rattle.abc_file_types.specs.declared.code.Body.{Body}
use Rattle.abc_file_types.specs.declared.methods.Metadata.{Metadata}
use Rattle.abc_file_types.specs.declared.methods.Method.{Method}
use Rattle.abc_file_types.specs.declared.names.Multiname.{Multiname}
use Rattle.abc_file_types.specs.declared.names.Namespace.{Namespace}
use Rattle.abc_file_types.specs.declared.opcodes.Form.{Form}
use Rattle.abc_file_types.specs.declared.tables.Eight.{Eight}
use Rattle.abc_file_types.specs.declared.tables.Abc.{Abc}
use Rattle.abc_file_types.specs.Opcodes.{form_at}
use Rattle.abc_text_lines.specs.Assembly.{end_or_fault, order_fault}
use Rattle.abc_text_lines.specs.Lines.{Row}
use Rattle.abc_text_lines.specs.Rows.{Fault, Faults, fault, unless, ◌>>=◌}
use Rattle.abc_text_lines.specs.Answers.{IsAssemblyFault, IsAssemblyOf}
use Rattle.abc_text_lines.specs.File.{faults}
use Rattle.abc_text_lines.specs.Lineforms as forms
use Rattle.abc_text_lines.specs.Texts.{instances_in, rows_of, sizes_in}
use Rattle.abc_text_reader.specs.declared.error.AsmError.{AsmError}
use Rattle.abc_text_reader.specs.declared.error.AsmError.TheVariants as errors
use Rattle.abc_text_reader.specs.declared.reader.Reader.{Reader}
use Rattle.abc_text_reader.specs.Reading.{rows_left}
use Rattle.abc_text_reader.specs.Parts.{TextPart, all_items, headed_item, lone_items, mapped_part, pair_of}
use Rattle.abc_asm.specs.declared.assembling.Definitions.{Definitions}
use Rattle.abc_asm.specs.declared.assembling.Pools.{Pools}
use Rattle.abc_asm.specs.Below.{body_item, class_from_below, instance_below, instance_from_below, instance_value, metadata_below, metadata_from_below, metadata_value, method_below, method_index_value, method_from_below, method_value, script_from_below, traits_below}

-- a file of which the text is one, or the text's one fault; want of memory says nothing
abbrev pub Assembles : List ℕ → Result Abc AsmError → Type 0
Assembles text (Ok v) = IsAssemblyOf text v
Assembles text (Err (errors.Refused line reason)) = IsAssemblyFault text (fault line reason)
Assembles text (Err errors.NoMemory) = Unit {0}

-- ---- the tables of a file, one after the other

abbrev pub ints_read : TextPart (List ℤ)
ints_read = lone_items words.Int (λ v labels tokens. forms.int_line.value labels tokens)

abbrev pub uints_read : TextPart (List ℕ)
uints_read = lone_items words.UInt (λ v labels tokens. forms.uint_line.value labels tokens)

abbrev pub doubles_read : TextPart (List Eight)
doubles_read = lone_items words.Double (λ v labels tokens. forms.double_line.value labels tokens)

abbrev pub strings_read : TextPart (List (List ℕ))
strings_read = lone_items words.Text (λ v labels tokens. forms.string_line.value labels tokens)

abbrev pub namespaces_read : TextPart (List Namespace)
namespaces_read = lone_items words.Namespace (λ v labels tokens. (forms.namespace_line v).value labels tokens)

abbrev pub sets_read : TextPart (List (List ℕ))
sets_read = lone_items words.Set (λ v labels tokens. (forms.set_line v).value labels tokens)

abbrev pub names_read : TextPart (List Multiname)
names_read = lone_items words.Name (λ v labels tokens. (forms.name_line v).value labels tokens)

abbrev pub PoolLists : Type 0
PoolLists = List ℤ × (List ℕ × (List Eight × (List (List ℕ) × (List Namespace × (List (List ℕ) × List Multiname)))))

abbrev pub pools_made : PoolLists → Pools
pools_made x = record { ints = x.0; uints = x.1.0; doubles = x.1.1.0; strings = x.1.1.1.0; namespaces = x.1.1.1.1.0; sets = x.1.1.1.1.1.0; names = x.1.1.1.1.1.1 }

abbrev pub pools_read : TextPart Pools
pools_read = mapped_part pools_made (pair_of ints_read (pair_of uints_read (pair_of doubles_read (pair_of strings_read (pair_of namespaces_read (pair_of sets_read names_read))))))

abbrev pub methods_read : TextPart (List Method)
methods_read = all_items words.Method (headed_item method_value method_below method_from_below)

abbrev pub metadata_read : TextPart (List Metadata)
metadata_read = all_items words.Metadata (headed_item metadata_value metadata_below metadata_from_below)

abbrev pub instances_read : TextPart (List Instance)
instances_read = all_items words.Instance (headed_item instance_value instance_below instance_from_below)

abbrev pub classes_read : TextPart (List ClassInfo)
classes_read = all_items words.Class (headed_item method_index_value traits_below class_from_below)

abbrev pub scripts_read : TextPart (List Script)
scripts_read = all_items words.Script (headed_item method_index_value traits_below script_from_below)

abbrev pub bodies_read : TextPart (List Body)
bodies_read = all_items words.Body body_item

abbrev pub DefinitionLists : Type 0
DefinitionLists = List Method × (List Metadata × (List Instance × (List ClassInfo × (List Script × List Body))))

abbrev pub definitions_made : DefinitionLists → Definitions
definitions_made x = record { methods = x.0; metadata = x.1.0; instances = x.1.1.0; classes = x.1.1.1.0; scripts = x.1.1.1.1.0; bodies = x.1.1.1.1.1 }

abbrev pub definitions_read : TextPart Definitions
definitions_read = mapped_part definitions_made (pair_of methods_read (pair_of metadata_read (pair_of instances_read (pair_of classes_read (pair_of scripts_read bodies_read)))))

abbrev pub abc_of : Pools × Definitions → Abc
abc_of x = record {
  ints = x.0.ints;
  uints = x.0.uints;
  doubles = x.0.doubles;
  strings = x.0.strings;
  namespaces = x.0.namespaces;
  sets = x.0.sets;
  names = x.0.names;
  methods = x.1.methods;
  metadata = x.1.metadata;
  instances = x.1.instances;
  classes = x.1.classes;
  scripts = x.1.scripts;
  bodies = x.1.bodies;
}

abbrev pub file_part_read : TextPart Abc
file_part_read = mapped_part abc_of (pair_of pools_read definitions_read)

-- ---- the whole text

-- what follows the version's line, or the fault at the first line
abbrev pub rows_after_version : {A : Type 0} → Faults → List Row → (List Row → Result A Fault) → Result A Fault
rows_after_version told [] next = Err (fault 1 reasons.Order)
rows_after_version told (row ∷ rows) next = if nat_eq (place_of row.word) 0 then unless (least (told row rows)) row.number (next rows) else order_fault told row rows

-- the reader read the version's line
abbrev pub ReadsVersion : Reader → Reader → Result (Unit {0}) AsmError → Type 0
ReadsVersion old new (Ok x) = (next : List Row → Result Abc Fault) → rows_after_version (faults old.sizes old.instances) (rows_left old) next ≡ next (rows_left new)
ReadsVersion old new (Err (errors.Refused line reason)) = (next : List Row → Result Abc Fault) → rows_after_version (faults old.sizes old.instances) (rows_left old) next ≡ Err (fault line reason)
ReadsVersion old new (Err errors.NoMemory) = Unit {0}

-- why a whole line of this word may not stand where it does: Word where the word is none, or no instruction has the opcode
abbrev pub reason_by_form : Option Form → AsmReason
reason_by_form None = reasons.Word
reason_by_form (Some form) = reasons.Order

abbrev pub out_of_order : Word → AsmReason
out_of_order words.Unknown = reasons.Word
out_of_order (words.Instruction op) = reason_by_form (form_at op)
out_of_order _ = reasons.Order

-- the next line may not stand where it does, and has this fault
abbrev pub IsMisplaced : Reader → AsmError → Type 0
IsMisplaced old (errors.Refused line reason) = (row : Row) (rows : List Row) → rows_left old ≡ row ∷ rows → order_fault {A = Abc} (faults old.sizes old.instances) row rows ≡ Err (fault line reason)
IsMisplaced old errors.NoMemory = Unit {0}

-- what is read of all lines of a text
abbrev pub text_read : List ℕ → Result Abc Fault
text_read text =
    let rows = rows_of text in
    let told = faults (sizes_in rows) (instances_in rows) in
    rows_after_version told rows (λ left. file_part_read (sizes_in rows) (instances_in rows) (length rows) left >>= λ x. end_or_fault told x)
