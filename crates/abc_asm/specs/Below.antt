-- The lines that have others below them, as they are read.
use Rattle.std.specs.Prelude.{ℕ, nat_eq, List, [], ◌∷◌, Ok, if◌then◌else◌}
use Rattle.abc_text_lines.specs.declared.word.Word.{Word}
use Rattle.abc_text_lines.specs.declared.word.Word.TheVariants as words
use Rattle.abc_text_lines.specs.Tokens.{Token}
use Rattle.abc_text_lines.specs.Words.{place_of}
use Rattle.abc_file_types.specs.declared.classes.ClassInfo.{ClassInfo}
use Rattle.abc_file_types.specs.declared.classes.Instance.{Instance}
use Rattle.abc_file_types.specs.declared.classes.Script.{Script}
use Rattle.abc_file_types.specs.declared.code.Body.{Body}
use Rattle.abc_file_types.specs.declared.code.Handler.{Handler}
use Rattle.abc_file_types.specs.declared.code.Instr.{Instr}
use Rattle.abc_file_types.specs.declared.methods.Metadata.{Metadata}
use Rattle.abc_file_types.specs.declared.methods.Method.{Method}
use Rattle.abc_file_types.specs.declared.methods.OptionValue.{OptionValue}
use Rattle.abc_file_types.specs.declared.tables.Sizes.{Sizes}
use Rattle.abc_file_types.specs.declared.traits.TraitInfo.{TraitInfo}
use Rattle.abc_text_lines.specs.Lines.{Label}
use Rattle.abc_text_lines.specs.Answers.{first_in, flat_pairs}
use Rattle.abc_text_lines.specs.Lineforms as forms
use Rattle.abc_text_operands.specs.declared.lines.BodyHead.{BodyHead}
use Rattle.abc_text_operands.specs.declared.lines.InstanceHead.{InstanceHead}
use Rattle.abc_text_operands.specs.declared.lines.MethodHead.{MethodHead}
use Rattle.abc_text_operands.specs.declared.traits.TraitHead.{TraitHead}
use Rattle.abc_text_reader.specs.Parts.{BlockItem, TextPart, all_items, headed_item, lone_items, mapped_part, pair_of}
use Rattle.abc_text_reader.specs.Coded.{code_read}
use Rattle.abc_asm.specs.declared.bodies.BodyBelow.{BodyBelow}
use Rattle.abc_asm.specs.declared.classes.InstanceBelow.{InstanceBelow}
use Rattle.abc_asm.specs.declared.methods.MethodBelow.{MethodBelow}

-- ---- methods

abbrev pub method_value : Sizes → List Label → List Token → MethodHead
method_value v labels tokens = let m = (forms.method_line v).value labels tokens in record { ret = m.ret; name = m.name; flags = m.flags }

abbrev pub params_read : TextPart (List ℕ)
params_read = lone_items words.Param (λ v labels tokens. (forms.param_line v).value labels tokens)

abbrev pub options_read : TextPart (List OptionValue)
options_read = lone_items words.Optional (λ v labels tokens. (forms.option_line v).value labels tokens)

abbrev pub param_names_read : TextPart (List ℕ)
param_names_read = lone_items words.ParamName (λ v labels tokens. forms.number_line.value labels tokens)

abbrev pub method_made : List ℕ × (List OptionValue × List ℕ) → MethodBelow
method_made x = record { params = x.0; options = x.1.0; names = x.1.1 }

abbrev pub method_below : TextPart MethodBelow
method_below = mapped_part method_made (pair_of params_read (pair_of options_read param_names_read))

abbrev pub method_from_below : MethodHead → MethodBelow → Method
method_from_below head below = record { ret = head.ret; params = below.params; name = head.name; flags = head.flags; options = below.options; param_names = below.names }

-- ---- metadata

abbrev pub metadata_value : Sizes → List Label → List Token → ℕ
metadata_value v labels tokens = (forms.string_index_line v).value labels tokens

abbrev pub entries_read : TextPart (List (ℕ × ℕ))
entries_read = lone_items words.Entry (λ v labels tokens. (forms.entry_line v).value labels tokens)

abbrev pub metadata_below : TextPart (List ℕ)
metadata_below = mapped_part flat_pairs entries_read

abbrev pub metadata_from_below : ℕ → List ℕ → Metadata
metadata_from_below name items = record { name = name; items = items }

-- ---- traits

abbrev pub trait_value : Sizes → List Label → List Token → TraitHead
trait_value v labels tokens = let t = (forms.trait_line v).value labels tokens in record { attrs = t.attrs; name = t.name; body = t.body }

abbrev pub trait_below : TextPart (List ℕ)
trait_below = lone_items words.TraitMetadata (λ v labels tokens. (forms.trait_metadata_line v).value labels tokens)

abbrev pub trait_of : TraitHead → List ℕ → TraitInfo
trait_of head metadata = record { name = head.name; attrs = head.attrs; body = head.body; metadata = metadata }

abbrev pub traits_below : TextPart (List TraitInfo)
traits_below = all_items words.Trait (headed_item trait_value trait_below trait_of)

-- ---- initializers, scripts and classes

abbrev pub method_index_value : Sizes → List Label → List Token → ℕ
method_index_value v labels tokens = (forms.method_index_line v).value labels tokens

abbrev pub initializer_of : ℕ → List TraitInfo → ℕ × List TraitInfo
initializer_of iinit traits = (iinit, traits)

abbrev pub script_from_below : ℕ → List TraitInfo → Script
script_from_below init traits = record { init = init; traits = traits }

abbrev pub class_from_below : ℕ → List TraitInfo → ClassInfo
class_from_below cinit traits = record { cinit = cinit; traits = traits }

-- at most one line of a word, and otherwise some value
abbrev pub optional_item : {A : Type 0} → Word → BlockItem A → A → TextPart A
optional_item word item other v instances n [] = Ok (other, [])
optional_item word item other v instances n (row ∷ rows) = if nat_eq (place_of row.word) (place_of word) then item v instances n row rows else Ok (other, row ∷ rows)

abbrev pub initializer_item : BlockItem (ℕ × List TraitInfo)
initializer_item = headed_item method_index_value traits_below initializer_of

abbrev pub initializer_below : TextPart (ℕ × List TraitInfo)
initializer_below = optional_item words.Initializer initializer_item (0, [])

-- ---- instances

abbrev pub instance_value : Sizes → List Label → List Token → InstanceHead
instance_value v labels tokens = let i = (forms.instance_line v).value labels tokens in record { name = i.name; super_name = i.super_name; flags = i.flags }

abbrev pub protected_read : TextPart (List ℕ)
protected_read = lone_items words.Protected (λ v labels tokens. (forms.protected_line v).value labels tokens)

abbrev pub interfaces_read : TextPart (List ℕ)
interfaces_read = lone_items words.Implements (λ v labels tokens. (forms.implements_line v).value labels tokens)

abbrev pub instance_made : List ℕ × (List ℕ × (ℕ × List TraitInfo)) → InstanceBelow
instance_made x = record { spaces = x.0; interfaces = x.1.0; iinit = x.1.1.0; traits = x.1.1.1 }

abbrev pub instance_below : TextPart InstanceBelow
instance_below = mapped_part instance_made (pair_of protected_read (pair_of interfaces_read initializer_below))

abbrev pub instance_from_below : InstanceHead → InstanceBelow → Instance
instance_from_below head below = record {
  name = head.name;
  super_name = head.super_name;
  flags = head.flags;
  protected_ns = first_in below.spaces;
  interfaces = below.interfaces;
  iinit = below.iinit;
  traits = below.traits;
}

-- ---- bodies

abbrev pub body_value : Sizes → List Label → List Token → BodyHead
body_value v labels tokens =
    let b = (forms.body_line v).value labels tokens in
    record { method = b.method; max_stack = b.max_stack; local_count = b.local_count; init_scope = b.init_scope; max_scope = b.max_scope }

abbrev pub handlers_read : TextPart (List Handler)
handlers_read = lone_items words.Catch (λ v labels tokens. (forms.catch_line v).value labels tokens)

abbrev pub body_made : List Instr × (List Handler × List TraitInfo) → BodyBelow
body_made x = record { code = x.0; handlers = x.1.0; traits = x.1.1 }

abbrev pub body_below : TextPart BodyBelow
body_below = mapped_part body_made (pair_of code_read (pair_of handlers_read traits_below))

abbrev pub body_from_below : BodyHead → BodyBelow → Body
body_from_below head below = record {
  method = head.method;
  max_stack = head.max_stack;
  local_count = head.local_count;
  init_scope = head.init_scope;
  max_scope = head.max_scope;
  code = below.code;
  handlers = below.handlers;
  traits = below.traits;
}

-- a body: its line, and below it the lines of its code, its handlers and its traits
abbrev pub body_item : BlockItem Body
body_item = headed_item body_value body_below body_from_below
