-- Methods with their optional values, and metadata
-- (Overview, chapter 4, "Method signature", "Optional parameters" and "Metadata"; profile: docs/FORMAT.md).
use Rattle.std.specs.Prelude.{ℕ, ◌*◌, ◌/◌, List, [], ◌∷◌, ◌++◌, length, Bool, true, nat_eq, nat_le, not, ◌||◌, bit_and, if◌then◌else◌}
use Rattle.std.specs.List.{flat_map}
use Rattle.abc_base.specs.Numbers.{number_bytes}
use Rattle.abc_file_types.specs.declared.reason.Reason.TheVariants as reasons
use Rattle.abc_file_types.specs.Part.{Part, then_by, both, image, with_test, when}
use Rattle.abc_file_types.specs.Numbers.{u8, u30, pool_index}
use Rattle.abc_file_types.specs.Lists.{times}
use Rattle.abc_file_types.specs.Canonical.{counted_bytes}
use Rattle.abc_file_types.specs.declared.methods.ValueKind.{ValueKind}
use Rattle.abc_file_types.specs.declared.methods.ValueKind.TheVariants as kinds
use Rattle.abc_file_types.specs.declared.methods.OptionValue.{OptionValue}
use Rattle.abc_file_types.specs.declared.methods.Method.{Method}
use Rattle.abc_file_types.specs.declared.methods.Metadata.{Metadata}
use Rattle.abc_file_types.specs.declared.tables.Sizes.{Sizes}

-- a flag is set
abbrev pub has_flag : ℕ → ℕ → Bool
has_flag flags flag = not (nat_eq (bit_and flags flag) 0)

-- ---- values

abbrev pub value_code : ValueKind → ℕ
value_code kinds.Undefined = 0x00
value_code kinds.Utf8 = 0x01
value_code kinds.Int = 0x03
value_code kinds.UInt = 0x04
value_code kinds.Double = 0x06
value_code kinds.False = 0x0a
value_code kinds.True = 0x0b
value_code kinds.Null = 0x0c
value_code kinds.Private = 0x05
value_code kinds.Namespace = 0x08
value_code kinds.Package = 0x16
value_code kinds.PackageInternal = 0x17
value_code kinds.Protected = 0x18
value_code kinds.Explicit = 0x19
value_code kinds.StaticProtected = 0x1a

abbrev pub is_value_kind : ℕ → Bool
is_value_kind k =
    nat_eq k 0x00 || nat_eq k 0x01 || nat_eq k 0x03 || nat_eq k 0x04 || nat_eq k 0x06 || nat_eq k 0x0a || nat_eq k 0x0b || nat_eq k 0x0c || nat_eq k 0x05
    || nat_eq k 0x08 || nat_eq k 0x16 || nat_eq k 0x17 || nat_eq k 0x18 || nat_eq k 0x19 || nat_eq k 0x1a

abbrev pub value_kind_of : ℕ → ValueKind
value_kind_of k =
    if nat_eq k 0x00 then kinds.Undefined
    else if nat_eq k 0x01 then kinds.Utf8
    else if nat_eq k 0x03 then kinds.Int
    else if nat_eq k 0x04 then kinds.UInt
    else if nat_eq k 0x06 then kinds.Double
    else if nat_eq k 0x0a then kinds.False
    else if nat_eq k 0x0b then kinds.True
    else if nat_eq k 0x0c then kinds.Null
    else if nat_eq k 0x05 then kinds.Private
    else if nat_eq k 0x08 then kinds.Namespace
    else if nat_eq k 0x16 then kinds.Package
    else if nat_eq k 0x17 then kinds.PackageInternal
    else if nat_eq k 0x18 then kinds.Protected
    else if nat_eq k 0x19 then kinds.Explicit
    else kinds.StaticProtected

unfoldable pub value_kind : Part ValueKind
value_kind = image value_kind_of (with_test is_value_kind reasons.OptionKind u8)

-- the pool that a kind names has the entry, or it names none
abbrev pub has_value : Sizes → ℕ → ValueKind → Bool
has_value v n kinds.Undefined = true
has_value v n kinds.Utf8 = nat_le n v.strings
has_value v n kinds.Int = nat_le n v.ints
has_value v n kinds.UInt = nat_le n v.uints
has_value v n kinds.Double = nat_le n v.doubles
has_value v n kinds.False = true
has_value v n kinds.True = true
has_value v n kinds.Null = true
has_value v n kinds.Private = nat_le n v.namespaces
has_value v n kinds.Namespace = nat_le n v.namespaces
has_value v n kinds.Package = nat_le n v.namespaces
has_value v n kinds.PackageInternal = nat_le n v.namespaces
has_value v n kinds.Protected = nat_le n v.namespaces
has_value v n kinds.Explicit = nat_le n v.namespaces
has_value v n kinds.StaticProtected = nat_le n v.namespaces

-- a value and its kind; the index is tested once the kind is accepted
unfoldable pub option_value : Sizes → Part OptionValue
option_value v = image (λ x. record { kind = x.1; value = x.0 }) (with_test (λ x. has_value v x.0 x.1) reasons.Index (both u30 value_kind))

-- the canonical bytes of an optional value: its index, and then the byte of its kind
unfoldable pub option_bytes : OptionValue → List ℕ
option_bytes o = number_bytes o.value ++ value_code o.kind ∷ []

-- ---- methods

-- at most one value for each parameter
unfoldable pub options : Sizes → ℕ → Part (List OptionValue)
options v params = image (λ x. x.1) (then_by (with_test (λ c. nat_le c params) reasons.OptionCount u30) (λ c. times c (option_value v)))

-- the number of parameters, and the fields in their order
abbrev pub method_in : ℕ × (ℕ × (List ℕ × (ℕ × (ℕ × (List OptionValue × List ℕ))))) → Method
method_in (count, (ret, (params, (name, (flags, (options, param_names)))))) =
    record { ret = ret; params = params; name = name; flags = flags; options = options; param_names = param_names }

-- a count of parameters, the return type, the types of the parameters, a name and flags;
-- then optional values where flag 08 is set, and the names of the parameters where flag 80 is
unfoldable pub method : Sizes → Part Method
method v =
    image method_in
    (then_by u30 (λ params.
    both (pool_index v.names) (both (times params (pool_index v.names)) (both (pool_index v.strings) (then_by u8 (λ flags.
    both (when (has_flag flags 0x08) [] (options v params)) (when (has_flag flags 0x80) [] (times params u30))))))))

unfoldable pub method_bytes : Method → List ℕ
method_bytes m =
    number_bytes (length m.params) ++ number_bytes m.ret ++ flat_map number_bytes m.params ++ number_bytes m.name ++ m.flags ∷ []
    ++ (if has_flag m.flags 0x08 then counted_bytes option_bytes m.options else [])
    ++ (if has_flag m.flags 0x80 then flat_map number_bytes m.param_names else [])

-- ---- metadata

-- a name, a count, and twice as many strings
unfoldable pub metadata : Sizes → Part Metadata
metadata v = image (λ x. record { name = x.0; items = x.1.1 }) (both (pool_index v.strings) (then_by u30 (λ n. times (2 * n) (pool_index v.strings))))

unfoldable pub metadata_bytes : Metadata → List ℕ
metadata_bytes m = number_bytes m.name ++ number_bytes (length m.items / 2) ++ flat_map number_bytes m.items
