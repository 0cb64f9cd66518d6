-- What is run: a linked file with the formulas of the host, and what it says of names, methods and layouts
-- (Overview, chapter 4; profile: docs/MACHINE.md, "The rules of a run").
use Rattle.std.specs.Prelude.{ℕ, pos, ◌+◌, ◌-◌, List, ◌++◌, Bool, true, false, not, ◌&&◌, ◌||◌, length, map, replicate, slice_get, Some, None, nat_le, nat_eq, if◌then◌else◌}
use Rattle.std.specs.declared.option.Option.{Option}
use Rattle.abc_base.specs.declared.formula.Formula.{Formula}
use Rattle.abc_base.specs.declared.names.HostClass.{HostClass}
use Rattle.abc_heap_values.specs.declared.values.Span.{Span}
use Rattle.abc_heap_values.specs.declared.values.Value.{Value}
use Rattle.abc_heap_values.specs.declared.values.Value.TheVariants as values
use Rattle.abc_link_names.specs.Instances.{instance_at}
use Rattle.abc_link_names.specs.declared.named.Named.TheVariants as named
use Rattle.abc_objects.specs.Starts.{string_span}
use Rattle.abc_link_names.specs.Linked.{LinkedFile}
use Rattle.abc_link_names.specs.Numbering.{part_at}
use Rattle.abc_link_names.specs.Owners.{body_of}
use Rattle.abc_link_names.specs.Types.{type_in}
use Rattle.abc_link_names.specs.declared.part.Part.{Part}
use Rattle.abc_link_names.specs.declared.part.Part.TheVariants as parts
use Rattle.abc_link_names.specs.declared.types.Ty.{Ty}
use Rattle.abc_link_names.specs.Starts.{raw_of_option}
use Rattle.abc_link_names.specs.declared.start.Raw.{Raw}
use Rattle.abc_link_names.specs.declared.start.Raw.TheVariants as raws
use Rattle.abc_objects.specs.declared.name.Name.{Name}
use Rattle.abc_objects.specs.declared.name.Spaces.{Spaces}
use Rattle.abc_objects.specs.declared.name.Spaces.TheVariants as spaces
use Rattle.abc_file_types.specs.Methods.{has_flag}
use Rattle.abc_file_types.specs.declared.methods.Method.{Method}
use Rattle.abc_file_types.specs.declared.methods.OptionValue.{OptionValue}
use Rattle.abc_file_types.specs.declared.names.Multiname.{Multiname}
use Rattle.abc_file_types.specs.declared.names.Multiname.TheVariants as names
use Rattle.abc_verify_typing.specs.Routines.{Routine, routine, takes_array}

pub record Setting : Type 0 where
  pub linked : LinkedFile
  pub formulas : List Formula

-- ---- names: what one of the pool leaves to be taken from the stack

-- a name of the pool: whole, or without its namespace, its text or both, which the stack then has
pub data NameForm : Type 0 where
  Whole : Name → NameForm
  NoSpace : Span → NameForm
  NoText : Spaces → NameForm
  NoPart : NameForm

abbrev pub string_of : Setting → ℕ → Span
string_of p i = string_span p.linked.file.strings i

abbrev pub spaces_for : ℕ → Spaces
spaces_for ns = if nat_eq ns 0 then spaces.Any else spaces.One ns

-- attribute names and names of types with parameters are never run
abbrev pub name_form : Setting → Multiname → Option NameForm
name_form p (names.QName false ns i) = Some (Whole (record { spaces = spaces_for ns; text = string_of p i }))
name_form p (names.Multi false i set) = Some (Whole (record { spaces = spaces.Set set; text = string_of p i }))
name_form p (names.Rt false i) = Some (NoSpace (string_of p i))
name_form p (names.MultiL false set) = Some (NoText (spaces.Set set))
name_form p (names.RtL false) = Some NoPart
name_form p other = None

-- ---- methods

abbrev pub method_of : Setting → ℕ → Option Method
method_of p n = slice_get p.linked.file.methods n

abbrev pub routine_in : Setting → Option ℕ → Option Routine
routine_in p None = None
routine_in p (Some b) = Some (routine p.linked b)

-- a method with its body, if it has one
abbrev pub routine_of : Setting → ℕ → Option Routine
routine_of p n = routine_in p (body_of p.linked.file n)

-- the values that a frame of a routine may keep
abbrev pub size_of : Routine → ℕ
size_of r = r.local_count + r.max_stack + r.scope_size

-- those that are missing have options, and there are no more than parameters where no array takes them
abbrev pub may_take_arguments : Method → ℕ → Bool
may_take_arguments m n = nat_le (length m.params - length m.options) n && (nat_le n (length m.params) || takes_array m.flags)

-- an option for each parameter; the last ones have some
abbrev pub options_of : Method → List (Option OptionValue)
options_of m = replicate (length m.params - length m.options) None ++ map Some m.options

-- the value of an option; a double is none
abbrev pub value_of_raw : Setting → Raw → Option Value
value_of_raw p raws.Undefined = Some values.Undefined
value_of_raw p raws.Null = Some values.Null
value_of_raw p (raws.Int z) = Some (values.Num z)
value_of_raw p (raws.UInt n) = Some (values.Num (pos n))
value_of_raw p raws.Double = None
value_of_raw p (raws.Bool b) = Some (values.Bool b)
value_of_raw p (raws.Text i) = Some (values.Text (string_of p i))
value_of_raw p (raws.Space i) = Some (values.Space i)

abbrev pub value_of_option : Setting → OptionValue → Option Value
value_of_option p o = value_of_raw p (raw_of_option p.linked.file o.kind o.value)

-- ---- classes and layouts

abbrev pub type_of_class : Setting → ℕ → Ty
type_of_class p k = type_in p.linked (named.Class k)

abbrev pub type_of_host : Setting → HostClass → Ty
type_of_host p c = type_in p.linked (named.Host c)

-- all objects are dynamic but activations, catch objects and instances of sealed classes
abbrev pub is_dynamic_part : Setting → Part → Bool
is_dynamic_part p (parts.Activation b) = false
is_dynamic_part p (parts.Catch b e) = false
is_dynamic_part p (parts.Instance k) = not (has_flag (instance_at p.linked.file k).flags 0x01)
is_dynamic_part p other = true

abbrev pub is_dynamic_layout : Setting → ℕ → Bool
is_dynamic_layout p x = is_dynamic_part p (part_at p.linked.parts x)
