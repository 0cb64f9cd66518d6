-- Definitions read alike over tables whose sizes an index cannot tell apart.
use Rattle.std.proofs.Common.{◌≡◌, ℕ, ◌^◌, ◌<◌, inl, inr, Bool, refl, sym, ap, ◌∙◌, min, arith}
use Rattle.std.specs.Prelude.{nat_lt, nat_le, nat_eq, not, ◌&&◌}
use Rattle.std.proofs.lemmas.Bool.{cases_lt, lt-ltb, le-leb}
use Rattle.abc_file_types.specs.Part.{when}
use Rattle.abc_file_types.specs.Numbers.{u30, index_below, pool_index, entry_index}
use Rattle.abc_file_types.specs.declared.methods.ValueKind.{ValueKind}
use Rattle.abc_file_types.specs.declared.methods.ValueKind.TheVariants as kinds
use Rattle.abc_file_types.specs.declared.traits.TraitKind.{TraitKind}
use Rattle.abc_file_types.specs.declared.traits.TraitKind.TheVariants as traits
use Rattle.abc_file_types.specs.declared.tables.Sizes.{Sizes}
use Rattle.abc_file_types.specs.Methods.{has_value, value_kind, option_value, options, method, metadata}
use Rattle.abc_file_types.specs.Traits.{slot_value, trait_fields, trait_info}
use Rattle.abc_file_types.specs.Classes.{instance, class_info, script}
use Rattle.abc_file_types.specs.Sizes.{capped_sizes}
use Rattle.abc_traits.proofs.Alike.{Alike, alike_refl, image-alike, then-alike, times-alike, counted-alike, when-alike, checked-alike, u30_below, first_read}

-- ---- one index

same_le : (x n : ℕ) → x < 2 ^ 30 → nat_le x n ≡ nat_le x (min n (2 ^ 30))
same_le x n lt =
    elim (cases_lt n (2 ^ 30)) [
      | inl few ↦ let e : min n (2 ^ 30) ≡ n = omega arith in ap (nat_le x) (sym e)
      | inr many ↦ let e : min n (2 ^ 30) ≡ 2 ^ 30 = omega arith in le-leb x n (omega arith) ∙ sym (ap (nat_le x) e ∙ le-leb x (2 ^ 30) (omega arith))
    ]

same_lt : (x n : ℕ) → x < 2 ^ 30 → nat_lt x n ≡ nat_lt x (min n (2 ^ 30))
same_lt x n lt =
    elim (cases_lt n (2 ^ 30)) [
      | inl few ↦ let e : min n (2 ^ 30) ≡ n = omega arith in ap (nat_lt x) (sym e)
      | inr many ↦ let e : min n (2 ^ 30) ≡ 2 ^ 30 = omega arith in lt-ltb x n (omega arith) ∙ sym (ap (nat_lt x) e ∙ lt-ltb x (2 ^ 30) lt)
    ]

pub pool_index-capped : (n : ℕ) → Alike (pool_index n) (pool_index (min n (2 ^ 30)))
unfolding pool_index
pool_index-capped n = checked-alike _ _ _ _ (λ from x after h. same_le x n (u30_below from x after h))

pub entry_index-capped : (n : ℕ) → Alike (entry_index n) (entry_index (min n (2 ^ 30)))
unfolding entry_index
entry_index-capped n = checked-alike _ _ _ _ (λ from x after h. ap (λ (b : Bool). nat_le 1 x && b) (same_le x n (u30_below from x after h)))

pub index_below-capped : (n : ℕ) → Alike (index_below n) (index_below (min n (2 ^ 30)))
unfolding index_below
index_below-capped n = checked-alike _ _ _ _ (λ from x after h. same_lt x n (u30_below from x after h))

same_value : (v : Sizes) (x : ℕ) (kind : ValueKind) → x < 2 ^ 30 → has_value v x kind ≡ has_value (capped_sizes v) x kind
same_value v x kinds.Undefined lt = refl
same_value v x kinds.Utf8 lt = same_le x v.strings lt
same_value v x kinds.Int lt = same_le x v.ints lt
same_value v x kinds.UInt lt = same_le x v.uints lt
same_value v x kinds.Double lt = same_le x v.doubles lt
same_value v x kinds.False lt = refl
same_value v x kinds.True lt = refl
same_value v x kinds.Null lt = refl
same_value v x kinds.Private lt = same_le x v.namespaces lt
same_value v x kinds.Namespace lt = same_le x v.namespaces lt
same_value v x kinds.Package lt = same_le x v.namespaces lt
same_value v x kinds.PackageInternal lt = same_le x v.namespaces lt
same_value v x kinds.Protected lt = same_le x v.namespaces lt
same_value v x kinds.Explicit lt = same_le x v.namespaces lt
same_value v x kinds.StaticProtected lt = same_le x v.namespaces lt

-- ---- each part

ruleset alikes = (image-alike, then-alike, times-alike, counted-alike, when-alike, pool_index-capped, entry_index-capped, index_below-capped, alike_refl)

pub option_value-capped : (v : Sizes) → Alike (option_value v) (option_value (capped_sizes v))
unfolding option_value
option_value-capped v =
    image-alike _ _ _ (checked-alike _ _ _ _ (λ from x after h. let first = first_read u30 (λ _. value_kind) from x after h in same_value v x.0 x.1 (u30_below from x.0 first.0 first.1)))

pub slot_value-capped : (v : Sizes) → Alike (slot_value v) (slot_value (capped_sizes v))
unfolding slot_value
slot_value-capped v =
    image-alike _ _ _ (checked-alike _ _ _ _ (λ from x after h. let first = first_read u30 (λ n. when (not (nat_eq n 0)) kinds.Undefined value_kind) from x after h in same_value v x.0 x.1 (u30_below from x.0 first.0 first.1)))

pub options-capped : (v : Sizes) (params : ℕ) → Alike (options v params) (options (capped_sizes v) params)
unfolding options
options-capped v params = image-alike _ _ _ (then-alike _ _ _ _ (alike_refl _) (λ c. times-alike c _ _ (option_value-capped v)))

pub method-capped : (v : Sizes) → Alike (method v) (method (capped_sizes v))
unfolding method
method-capped v = search (alikes, options-capped) depth 20

pub metadata-capped : (v : Sizes) → Alike (metadata v) (metadata (capped_sizes v))
unfolding metadata
metadata-capped v = search alikes

trait_fields-capped : (v : Sizes) (kind : TraitKind) → Alike (trait_fields v kind) (trait_fields (capped_sizes v) kind)
trait_fields-capped v traits.Slot = search (alikes, slot_value-capped)
trait_fields-capped v traits.Method = search alikes
trait_fields-capped v traits.Getter = search alikes
trait_fields-capped v traits.Setter = search alikes
trait_fields-capped v traits.Class = search alikes
trait_fields-capped v traits.Function = search alikes
trait_fields-capped v traits.Const = search (alikes, slot_value-capped)

pub trait_info-capped : (v : Sizes) → Alike (trait_info v) (trait_info (capped_sizes v))
unfolding trait_info
trait_info-capped v = search (alikes, trait_fields-capped) depth 12

pub instance-capped : (v : Sizes) → Alike (instance v) (instance (capped_sizes v))
unfolding instance
instance-capped v = search (alikes, trait_info-capped) depth 20

pub class_info-capped : (v : Sizes) → Alike (class_info v) (class_info (capped_sizes v))
unfolding class_info
class_info-capped v = search (alikes, trait_info-capped)

pub script-capped : (v : Sizes) → Alike (script v) (script (capped_sizes v))
unfolding script
script-capped v = search (alikes, trait_info-capped)
