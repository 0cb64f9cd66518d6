-- The constant pools: numbers, texts, namespaces, sets of namespaces and multinames
-- (Overview, chapter 4, "Constant pool", "Namespace" and "Multiname"; profile: docs/FORMAT.md).
use Rattle.std.specs.Prelude.{ℕ, ℤ, List, [], ◌∷◌, ◌++◌, length, Bool, true, false, nat_eq, ◌||◌, ◌&&◌, if◌then◌else◌}
use Rattle.abc_base.specs.Numbers.{number_bytes}
use Rattle.abc_file_types.specs.declared.reason.Reason.TheVariants as reasons
use Rattle.abc_file_types.specs.Part.{Part, known_value, then_by, both, image, with_test}
use Rattle.abc_file_types.specs.Numbers.{u8, u32, s32, pool_index, entry_index}
use Rattle.abc_file_types.specs.Lists.{times, count_and_items, pool, pool_by, bytes_with_count}
use Rattle.abc_file_types.specs.Canonical.{s32_bytes, counted_bytes, pool_bytes, text_bytes}
use Rattle.abc_file_types.specs.declared.names.NsKind.{NsKind}
use Rattle.abc_file_types.specs.declared.names.NsKind.TheVariants as spaces
use Rattle.abc_file_types.specs.declared.names.Namespace.{Namespace}
use Rattle.abc_file_types.specs.declared.names.MultinameKind.{MultinameKind}
use Rattle.abc_file_types.specs.declared.names.MultinameKind.TheVariants as kinds
use Rattle.abc_file_types.specs.declared.names.Multiname.{Multiname}
use Rattle.abc_file_types.specs.declared.names.Multiname.TheVariants as names
use Rattle.abc_file_types.specs.declared.tables.Eight.{Eight}
use Rattle.abc_file_types.specs.declared.tables.Abc.{Abc}

-- eight bytes, which no one reads as a number
unfoldable pub double : Part Eight
double = image (λ b. record { 0 = b }) (times 8 u8)

abbrev pub double_bytes : Eight → List ℕ
double_bytes d = d.0

-- ---- namespaces

abbrev pub namespace_code : NsKind → ℕ
namespace_code spaces.Private = 0x05
namespace_code spaces.Namespace = 0x08
namespace_code spaces.Package = 0x16
namespace_code spaces.PackageInternal = 0x17
namespace_code spaces.Protected = 0x18
namespace_code spaces.Explicit = 0x19
namespace_code spaces.StaticProtected = 0x1a

abbrev pub is_namespace_kind : ℕ → Bool
is_namespace_kind k = nat_eq k 0x05 || nat_eq k 0x08 || nat_eq k 0x16 || nat_eq k 0x17 || nat_eq k 0x18 || nat_eq k 0x19 || nat_eq k 0x1a

abbrev pub namespace_kind_of : ℕ → NsKind
namespace_kind_of k =
    if nat_eq k 0x05 then spaces.Private
    else if nat_eq k 0x08 then spaces.Namespace
    else if nat_eq k 0x16 then spaces.Package
    else if nat_eq k 0x17 then spaces.PackageInternal
    else if nat_eq k 0x18 then spaces.Protected
    else if nat_eq k 0x19 then spaces.Explicit
    else spaces.StaticProtected

unfoldable pub namespace_kind : Part NsKind
namespace_kind = image namespace_kind_of (with_test is_namespace_kind reasons.NamespaceKind u8)

-- a kind and a name, where there are so many strings
unfoldable pub namespace : ℕ → Part Namespace
namespace strings = image (λ x. record { kind = x.0; name = x.1 }) (both namespace_kind (pool_index strings))

unfoldable pub namespace_bytes : Namespace → List ℕ
namespace_bytes n = namespace_code n.kind ∷ number_bytes n.name

-- a count and that many namespaces
unfoldable pub namespace_set : ℕ → Part (List ℕ)
namespace_set spaces = count_and_items (entry_index spaces)

-- ---- multinames

abbrev pub multiname_code : MultinameKind → ℕ
multiname_code (kinds.QName false) = 0x07
multiname_code (kinds.QName true) = 0x0d
multiname_code (kinds.Rt false) = 0x0f
multiname_code (kinds.Rt true) = 0x10
multiname_code (kinds.RtL false) = 0x11
multiname_code (kinds.RtL true) = 0x12
multiname_code (kinds.Multi false) = 0x09
multiname_code (kinds.Multi true) = 0x0e
multiname_code (kinds.MultiL false) = 0x1b
multiname_code (kinds.MultiL true) = 0x1c
multiname_code kinds.TypeName = 0x1d

-- the bytes that are kinds; where `wide` is false, as in the narrow format, 1D is none
abbrev pub is_multiname_kind : Bool → ℕ → Bool
is_multiname_kind wide k =
    nat_eq k 0x07 || nat_eq k 0x0d || nat_eq k 0x0f || nat_eq k 0x10 || nat_eq k 0x11 || nat_eq k 0x12 || nat_eq k 0x09 || nat_eq k 0x0e || nat_eq k 0x1b
    || nat_eq k 0x1c || (wide && nat_eq k 0x1d)

abbrev pub multiname_kind_of : ℕ → MultinameKind
multiname_kind_of k =
    if nat_eq k 0x07 then kinds.QName false
    else if nat_eq k 0x0d then kinds.QName true
    else if nat_eq k 0x0f then kinds.Rt false
    else if nat_eq k 0x10 then kinds.Rt true
    else if nat_eq k 0x11 then kinds.RtL false
    else if nat_eq k 0x12 then kinds.RtL true
    else if nat_eq k 0x09 then kinds.Multi false
    else if nat_eq k 0x0e then kinds.Multi true
    else if nat_eq k 0x1b then kinds.MultiL false
    else if nat_eq k 0x1c then kinds.MultiL true
    else kinds.TypeName

abbrev pub multiname_kind_in : Bool → Part MultinameKind
multiname_kind_in wide = image multiname_kind_of (with_test (is_multiname_kind wide) reasons.MultinameKind u8)

unfoldable pub multiname_kind : Part MultinameKind
multiname_kind = multiname_kind_in true

-- a base, a count and that many parameters, where there are so many multinames in all
abbrev pub type_fields : ℕ → Part (ℕ × List ℕ)
type_fields all = both (entry_index all) (count_and_items (pool_index all))

-- the fields of each kind, where there are so many strings, namespaces, sets and multinames
abbrev pub multiname_fields : ℕ → ℕ → ℕ → ℕ → MultinameKind → Part Multiname
multiname_fields strings spaces sets all (kinds.QName attr) = image (λ x. names.QName attr x.0 x.1) (both (pool_index spaces) (pool_index strings))
multiname_fields strings spaces sets all (kinds.Rt attr) = image (λ x. names.Rt attr x) (pool_index strings)
multiname_fields strings spaces sets all (kinds.RtL attr) = known_value (names.RtL attr)
multiname_fields strings spaces sets all (kinds.Multi attr) = image (λ x. names.Multi attr x.0 x.1) (both (pool_index strings) (entry_index sets))
multiname_fields strings spaces sets all (kinds.MultiL attr) = image (λ x. names.MultiL attr x) (entry_index sets)
multiname_fields strings spaces sets all kinds.TypeName = image (λ x. names.TypeName x.0 x.1) (type_fields all)

-- a kind, read so, and its fields
abbrev pub multiname_of : Part MultinameKind → ℕ → ℕ → ℕ → ℕ → Part Multiname
multiname_of kind strings spaces sets all = image (λ x. x.1) (then_by kind (multiname_fields strings spaces sets all))

-- a multiname, where there are so many strings, namespaces, sets and multinames: its kind byte, and the fields of the kind
unfoldable pub multiname : ℕ → ℕ → ℕ → ℕ → Part Multiname
multiname = multiname_of multiname_kind

-- those of the pool, which may name one another
unfoldable pub multinames : ℕ → ℕ → ℕ → Part (List Multiname)
multinames strings spaces sets = pool_by (multiname strings spaces sets)

-- the canonical bytes of a multiname: its kind byte, and its fields
abbrev pub multiname_bytes : Multiname → List ℕ
multiname_bytes (names.QName attr n i) = multiname_code (kinds.QName attr) ∷ (number_bytes n ++ number_bytes i)
multiname_bytes (names.Rt attr i) = multiname_code (kinds.Rt attr) ∷ number_bytes i
multiname_bytes (names.RtL attr) = multiname_code (kinds.RtL attr) ∷ []
multiname_bytes (names.Multi attr i s) = multiname_code (kinds.Multi attr) ∷ (number_bytes i ++ number_bytes s)
multiname_bytes (names.MultiL attr s) = multiname_code (kinds.MultiL attr) ∷ number_bytes s
multiname_bytes (names.TypeName base params) = multiname_code kinds.TypeName ∷ (number_bytes base ++ counted_bytes number_bytes params)

-- ---- all pools

-- a file whose tables are empty
abbrev pub empty : Abc
empty = record {
  ints = [];
  uints = [];
  doubles = [];
  strings = [];
  namespaces = [];
  sets = [];
  names = [];
  methods = [];
  metadata = [];
  instances = [];
  classes = [];
  scripts = [];
  bodies = [];
}

-- the values of the pools, in their order
abbrev pub PoolValues : Type 0
PoolValues = List ℤ × (List ℕ × (List Eight × (List (List ℕ) × (List Namespace × (List (List ℕ) × List Multiname)))))

-- a file that has these pools alone
abbrev pub with_pools : PoolValues → Abc
with_pools (ints, (uints, (doubles, (strings, (namespaces, (sets, multinames)))))) = record empty {
  ints = ints;
  uints = uints;
  doubles = doubles;
  strings = strings;
  namespaces = namespaces;
  sets = sets;
  names = multinames;
}

-- the pools in their order, as a value whose other tables are empty
abbrev pub pools_of : (ℕ → ℕ → ℕ → Part (List Multiname)) → Part Abc
pools_of multinames =
    image with_pools
    (both (pool s32) (both (pool u32) (both (pool double) (then_by (pool bytes_with_count) (λ strings.
    then_by (pool (namespace (length strings))) (λ spaces.
    then_by (pool (namespace_set (length spaces))) (λ sets.
    multinames (length strings) (length spaces) (length sets))))))))

-- all pools, as a value whose other tables are empty
unfoldable pub pools : Part Abc
pools = pools_of multinames

-- the canonical bytes of all pools of a file
unfoldable pub pools_bytes : Abc → List ℕ
pools_bytes v =
    pool_bytes s32_bytes v.ints ++ pool_bytes number_bytes v.uints ++ pool_bytes double_bytes v.doubles ++ pool_bytes text_bytes v.strings
    ++ pool_bytes namespace_bytes v.namespaces ++ pool_bytes (counted_bytes number_bytes) v.sets ++ pool_bytes multiname_bytes v.names
