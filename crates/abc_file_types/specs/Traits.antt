-- Traits (Overview, chapter 4, "Trait"; profile: docs/FORMAT.md).
use Rattle.std.specs.Prelude.{ℕ, ◌+◌, ◌*◌, ◌%◌, ◌/◌, List, [], ◌∷◌, ◌++◌, true, false, nat_eq, nat_le, not, Some, None, if◌then◌else◌}
use Rattle.std.specs.declared.option.Option.{Option}
use Rattle.abc_base.specs.Numbers.{number_bytes}
use Rattle.abc_file_types.specs.declared.reason.Reason.TheVariants as reasons
use Rattle.abc_file_types.specs.Part.{Part, then_by, both, image, with_test, when}
use Rattle.abc_file_types.specs.Numbers.{u8, u30, index_below, pool_index, entry_index}
use Rattle.abc_file_types.specs.Lists.{count_and_items}
use Rattle.abc_file_types.specs.Canonical.{counted_bytes}
use Rattle.abc_file_types.specs.declared.methods.ValueKind.{ValueKind}
use Rattle.abc_file_types.specs.declared.methods.ValueKind.TheVariants as kinds
use Rattle.abc_file_types.specs.declared.methods.OptionValue.{OptionValue}
use Rattle.abc_file_types.specs.declared.traits.TraitKind.{TraitKind}
use Rattle.abc_file_types.specs.declared.traits.TraitKind.TheVariants as traits
use Rattle.abc_file_types.specs.declared.traits.TraitBody.{TraitBody}
use Rattle.abc_file_types.specs.declared.traits.TraitBody.TheVariants as bodies
use Rattle.abc_file_types.specs.declared.traits.TraitInfo.{TraitInfo}
use Rattle.abc_file_types.specs.declared.tables.Sizes.{Sizes}
use Rattle.abc_file_types.specs.Methods.{has_flag, has_value, value_kind, option_bytes}

-- ---- the kind byte: the kind in its low four bits, the attributes in its high four

abbrev pub trait_code : TraitKind → ℕ
trait_code traits.Slot = 0
trait_code traits.Method = 1
trait_code traits.Getter = 2
trait_code traits.Setter = 3
trait_code traits.Class = 4
trait_code traits.Function = 5
trait_code traits.Const = 6

abbrev pub trait_kind_of : ℕ → TraitKind
trait_kind_of k =
    if nat_eq k 0 then traits.Slot
    else if nat_eq k 1 then traits.Method
    else if nat_eq k 2 then traits.Getter
    else if nat_eq k 3 then traits.Setter
    else if nat_eq k 4 then traits.Class
    else if nat_eq k 5 then traits.Function
    else traits.Const

-- the kind and the attributes
unfoldable pub trait_kind : Part (TraitKind × ℕ)
trait_kind = image (λ b. (trait_kind_of (b % 16), b / 16 % 16)) (with_test (λ b. nat_le (b % 16) 6) reasons.TraitKind u8)

-- ---- the fields of each kind

abbrev pub slot_value_of : ℕ → ValueKind → Option OptionValue
slot_value_of n kind = if nat_eq n 0 then None else Some (record { kind = kind; value = n })

-- an index, and a kind only where it is not 0; the index is tested once the kind is accepted
unfoldable pub slot_value : Sizes → Part (Option OptionValue)
slot_value v =
    image (λ x. slot_value_of x.0 x.1)
    (with_test (λ x. has_value v x.0 x.1) reasons.Index (then_by u30 (λ n. when (not (nat_eq n 0)) kinds.Undefined value_kind)))

-- the canonical bytes of a slot's value: the index 0 where there is none, else its index and the byte of its kind
abbrev pub slot_value_bytes : Option OptionValue → List ℕ
slot_value_bytes None = number_bytes 0
slot_value_bytes (Some o) = option_bytes o

abbrev pub trait_fields : Sizes → TraitKind → Part TraitBody
trait_fields v traits.Slot = image (λ x. bodies.Slot x.0 x.1.0 x.1.1 false) (both u30 (both (pool_index v.names) (slot_value v)))
trait_fields v traits.Const = image (λ x. bodies.Slot x.0 x.1.0 x.1.1 true) (both u30 (both (pool_index v.names) (slot_value v)))
trait_fields v traits.Method = image (λ x. bodies.Method x.0 x.1) (both u30 (index_below v.methods))
trait_fields v traits.Getter = image (λ x. bodies.Getter x.0 x.1) (both u30 (index_below v.methods))
trait_fields v traits.Setter = image (λ x. bodies.Setter x.0 x.1) (both u30 (index_below v.methods))
trait_fields v traits.Class = image (λ x. bodies.Class x.0 x.1) (both u30 (index_below v.classes))
trait_fields v traits.Function = image (λ x. bodies.Function x.0 x.1) (both u30 (index_below v.methods))

abbrev pub trait_kind_in : TraitBody → TraitKind
trait_kind_in (bodies.Slot id ty value false) = traits.Slot
trait_kind_in (bodies.Slot id ty value true) = traits.Const
trait_kind_in (bodies.Method disp method) = traits.Method
trait_kind_in (bodies.Getter disp method) = traits.Getter
trait_kind_in (bodies.Setter disp method) = traits.Setter
trait_kind_in (bodies.Class id class) = traits.Class
trait_kind_in (bodies.Function id method) = traits.Function

abbrev pub trait_fields_bytes : TraitBody → List ℕ
trait_fields_bytes (bodies.Slot id ty value constant) = number_bytes id ++ number_bytes ty ++ slot_value_bytes value
trait_fields_bytes (bodies.Method disp method) = number_bytes disp ++ number_bytes method
trait_fields_bytes (bodies.Getter disp method) = number_bytes disp ++ number_bytes method
trait_fields_bytes (bodies.Setter disp method) = number_bytes disp ++ number_bytes method
trait_fields_bytes (bodies.Class id class) = number_bytes id ++ number_bytes class
trait_fields_bytes (bodies.Function id method) = number_bytes id ++ number_bytes method

-- ---- a trait

-- the fields in their order
abbrev pub trait_in : ℕ × ((TraitKind × ℕ) × (TraitBody × List ℕ)) → TraitInfo
trait_in (name, ((kind, attrs), (body, metadata))) = record { name = name; attrs = attrs; body = body; metadata = metadata }

-- a name, a kind byte with the attributes, the fields of the kind, and metadata where the attribute 4 is set
unfoldable pub trait_info : Sizes → Part TraitInfo
trait_info v =
    image trait_in
    (both (entry_index v.names) (then_by trait_kind (λ k.
    both (trait_fields v k.0) (when (has_flag k.1 4) [] (count_and_items (index_below v.metadata))))))

unfoldable pub trait_bytes : TraitInfo → List ℕ
trait_bytes t =
    number_bytes t.name ++ (16 * (t.attrs % 16) + trait_code (trait_kind_in t.body)) ∷ [] ++ trait_fields_bytes t.body
    ++ (if has_flag t.attrs 4 then counted_bytes number_bytes t.metadata else [])
