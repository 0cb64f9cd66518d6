-- How many bytes the canonical bytes of a value have: a sum over its fields, with the fewest bytes of each number.
use Rattle.std.specs.Prelude.{ℕ, ℤ, ◌+◌, ◌/◌, List, length, get_or, Some, None, if◌then◌else◌}
use Rattle.std.specs.Int.{w32, cast_unsigned}
use Rattle.std.specs.List.{sum_by}
use Rattle.std.specs.declared.option.Option.{Option}
use Rattle.abc_file_types.specs.Canonical.{pool_count}
use Rattle.abc_file_types.specs.declared.classes.ClassInfo.{ClassInfo}
use Rattle.abc_file_types.specs.declared.classes.Instance.{Instance}
use Rattle.abc_file_types.specs.declared.classes.Script.{Script}
use Rattle.abc_file_types.specs.declared.code.Body.{Body}
use Rattle.abc_file_types.specs.declared.code.Handler.{Handler}
use Rattle.abc_file_types.specs.declared.methods.Metadata.{Metadata}
use Rattle.abc_file_types.specs.declared.methods.Method.{Method}
use Rattle.abc_file_types.specs.declared.methods.OptionValue.{OptionValue}
use Rattle.abc_file_types.specs.declared.names.Multiname.{Multiname}
use Rattle.abc_file_types.specs.declared.names.Multiname.TheVariants as names
use Rattle.abc_file_types.specs.declared.names.Namespace.{Namespace}
use Rattle.abc_file_types.specs.declared.tables.Abc.{Abc}
use Rattle.abc_file_types.specs.declared.tables.Eight.{Eight}
use Rattle.abc_file_types.specs.declared.traits.TraitBody.{TraitBody}
use Rattle.abc_file_types.specs.declared.traits.TraitBody.TheVariants as bodies
use Rattle.abc_file_types.specs.declared.traits.TraitInfo.{TraitInfo}
use Rattle.abc_file_types.specs.CodeBytes.{canonical_starts, code_len, number_len}
use Rattle.abc_file_types.specs.Methods.{has_flag}

-- ---- lists

-- a count and the items
abbrev pub counted_len : {A : Type 0} → (A → ℕ) → List A → ℕ
counted_len f xs = number_len (length xs) + sum_by f xs

-- the count of a pool, which counts entry 0 unless the pool is empty, and the items
abbrev pub pool_len : {A : Type 0} → (A → ℕ) → List A → ℕ
pool_len f xs = number_len (pool_count xs) + sum_by f xs

-- ---- pools

-- 32 bits, unsigned
abbrev pub s32_len : ℤ → ℕ
s32_len z = number_len (cast_unsigned w32 z)

abbrev pub double_len : Eight → ℕ
double_len d = length d.0

-- the number of the bytes, and the bytes
abbrev pub text_len : List ℕ → ℕ
text_len b = number_len (length b) + length b

abbrev pub namespace_len : Namespace → ℕ
namespace_len n = 1 + number_len n.name

abbrev pub multiname_len : Multiname → ℕ
multiname_len (names.QName attr ns name) = 1 + number_len ns + number_len name
multiname_len (names.Rt attr name) = 1 + number_len name
multiname_len (names.RtL attr) = 1
multiname_len (names.Multi attr name set) = 1 + number_len name + number_len set
multiname_len (names.MultiL attr set) = 1 + number_len set
multiname_len (names.TypeName base params) = 1 + number_len base + counted_len number_len params

-- how many canonical bytes all pools have
unfoldable pub pools_len : Abc → ℕ
pools_len v =
    pool_len s32_len v.ints + pool_len number_len v.uints + pool_len double_len v.doubles + pool_len text_len v.strings + pool_len namespace_len v.namespaces
    + pool_len (counted_len number_len) v.sets + pool_len multiname_len v.names

-- ---- methods and metadata

-- an index and the byte of its kind
abbrev pub option_len : OptionValue → ℕ
option_len o = number_len o.value + 1

unfoldable pub method_len : Method → ℕ
method_len m =
    number_len (length m.params) + number_len m.ret + sum_by number_len m.params + number_len m.name + 1
    + (if has_flag m.flags 0x08 then counted_len option_len m.options else 0) + (if has_flag m.flags 0x80 then sum_by number_len m.param_names else 0)

unfoldable pub metadata_len : Metadata → ℕ
metadata_len m = number_len m.name + number_len (length m.items / 2) + sum_by number_len m.items

-- ---- traits

-- an index, which is 0 where there is no value, and the byte of its kind where it is not
abbrev pub slot_value_len : Option OptionValue → ℕ
slot_value_len None = 1
slot_value_len (Some o) = option_len o

abbrev pub trait_fields_len : TraitBody → ℕ
trait_fields_len (bodies.Slot id ty value constant) = number_len id + number_len ty + slot_value_len value
trait_fields_len (bodies.Method disp method) = number_len disp + number_len method
trait_fields_len (bodies.Getter disp method) = number_len disp + number_len method
trait_fields_len (bodies.Setter disp method) = number_len disp + number_len method
trait_fields_len (bodies.Class id class) = number_len id + number_len class
trait_fields_len (bodies.Function id method) = number_len id + number_len method

unfoldable pub trait_len : TraitInfo → ℕ
trait_len t = number_len t.name + 1 + trait_fields_len t.body + (if has_flag t.attrs 4 then counted_len number_len t.metadata else 0)

-- ---- classes and scripts

abbrev pub protected_len : Option ℕ → ℕ
protected_len None = 0
protected_len (Some n) = number_len n

unfoldable pub instance_len : Instance → ℕ
instance_len i =
    number_len i.name + number_len i.super_name + 1 + protected_len i.protected_ns + counted_len number_len i.interfaces + number_len i.iinit
    + counted_len trait_len i.traits

unfoldable pub class_len : ClassInfo → ℕ
class_len c = number_len c.cinit + counted_len trait_len c.traits

unfoldable pub script_len : Script → ℕ
script_len s = number_len s.init + counted_len trait_len s.traits

-- how many canonical bytes all definitions have
unfoldable pub definitions_len : Abc → ℕ
definitions_len v =
    counted_len method_len v.methods + counted_len metadata_len v.metadata + number_len (length v.classes) + sum_by instance_len v.instances
    + sum_by class_len v.classes + counted_len script_len v.scripts

-- ---- bodies

-- the start of an instruction, or of the end, in canonical code
abbrev pub place_len : List ℕ → ℕ → ℕ
place_len starts t = number_len (get_or starts t 0)

abbrev pub handler_len : List ℕ → Handler → ℕ
handler_len starts h = place_len starts h.from + place_len starts h.to + place_len starts h.target + number_len h.exc_type + number_len h.var_name

-- how many canonical bytes a body has
unfoldable pub body_len : Body → ℕ
body_len b =
    number_len b.method + number_len b.max_stack + number_len b.local_count + number_len b.init_scope + number_len b.max_scope
    + (number_len (code_len b.code) + code_len b.code) + counted_len (handler_len (canonical_starts b.code)) b.handlers + counted_len trait_len b.traits

-- ---- the whole file

-- the version has four bytes
unfoldable pub file_len : Abc → ℕ
file_len v = 4 + pools_len v + definitions_len v + counted_len body_len v.bodies
