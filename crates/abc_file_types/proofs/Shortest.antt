-- The canonical bytes of each part of the pools and of the definitions are a spelling, and none is shorter.
use Rattle.std.proofs.lemmas.List.{append-nil}
use Rattle.std.proofs.Common.{◌≡◌, ℕ, ◌+◌, ◌*◌, ◌%◌, ◌/◌, ◌<◌, ◌++◌, ◌∷◌, [], length, List, Bool, true, false, cond, not, refl, sym, ap, ◌∙◌, append_assoc, Some, None, arith}
use Rattle.std.specs.Prelude.{nat_eq, nat_le}
use Rattle.std.specs.List.{flat_map}
use Rattle.std.proofs.lemmas.Bool.Decides.{nat_tests}
use Rattle.abc_base.specs.Numbers.{number_bytes}
use Rattle.abc_file_types.specs.Part.{image, when}
use Rattle.abc_file_types.specs.Numbers.{u8, pool_index}
use Rattle.abc_file_types.specs.Canonical.{IsCanonical, counted_bytes, pool_bytes, text_bytes}
use Rattle.abc_file_types.proofs.Canon.{image-canonical, both-canonical, checked-canonical, then-canonical, done-canonical, times-canonical, times_length, u8-canonical, u30-canonical, index_below-canonical, pool_index-canonical, entry_index-canonical, counted-canonical, pool-canonical, pool_by-canonical, when-canonical}
use Rattle.abc_file_types.proofs.Least.{u32-canonical, s32-canonical}
use Rattle.abc_file_types.proofs.Fixed.{text-canonical, each_byte}
use Rattle.abc_file_types.specs.declared.names.MultinameKind.{MultinameKind}
use Rattle.abc_file_types.specs.declared.names.MultinameKind.TheVariants as kinds
use Rattle.abc_file_types.specs.declared.names.Multiname.{Multiname}
use Rattle.abc_file_types.specs.declared.names.Multiname.TheVariants as names
use Rattle.abc_file_types.specs.declared.methods.ValueKind.{ValueKind}
use Rattle.abc_file_types.specs.declared.methods.OptionValue.{OptionValue}
use Rattle.abc_file_types.specs.declared.traits.TraitKind.{TraitKind}
use Rattle.abc_file_types.specs.declared.traits.TraitKind.TheVariants as traits
use Rattle.abc_file_types.specs.declared.traits.TraitBody.{TraitBody}
use Rattle.abc_file_types.specs.declared.tables.Sizes.{Sizes}
use Rattle.abc_file_types.specs.declared.tables.Abc.{Abc}
use Rattle.abc_file_types.specs.Pools.{double, double_bytes, namespace_code, namespace_kind_of, is_namespace_kind, namespace_kind, namespace, namespace_bytes, namespace_set, multiname_code, multiname_kind_of, is_multiname_kind, multiname_kind, multiname_fields, multiname, multinames, multiname_bytes, pools, pools_bytes}
use Rattle.abc_file_types.specs.Methods.{has_flag, value_code, is_value_kind, value_kind_of, value_kind, option_value, option_bytes, options, method, method_bytes, metadata, metadata_bytes}
use Rattle.abc_file_types.specs.Traits.{trait_code, trait_kind_of, trait_kind, slot_value_of, slot_value, slot_value_bytes, trait_fields, trait_kind_in, trait_fields_bytes, trait_info, trait_bytes}
use Rattle.abc_file_types.specs.Classes.{some_index, instance, protected_bytes, instance_bytes, class_info, class_bytes, script, script_bytes, sizes_with, definitions, definitions_bytes}
use Rattle.abc_file_types.specs.declared.classes.Instance.{Instance}
use Rattle.abc_file_types.specs.declared.classes.ClassInfo.{ClassInfo}
use Rattle.abc_file_types.specs.declared.classes.Script.{Script}

-- ---- pools

double-canonical : IsCanonical double double_bytes
unfolding double
double-canonical = image-canonical _ _ (flat_map (λ x. x ∷ [])) _ (times-canonical 8 _ _ u8-canonical) (λ x b s. each_byte x)

namespace_code_back : (k : ℕ) → is_namespace_kind k ≡ true → namespace_code (namespace_kind_of k) ≡ k
namespace_code_back k h = grind (arith, nat_tests)

pub namespace_kind-canonical : IsCanonical namespace_kind (λ k. namespace_code k ∷ [])
unfolding namespace_kind
namespace_kind-canonical = image-canonical _ _ _ _ (checked-canonical _ _ _ _ u8-canonical) (λ x b s. ap (λ (c : ℕ). c ∷ []) (sym (namespace_code_back x s.1)))

pub namespace-canonical : (strings : ℕ) → IsCanonical (namespace strings) namespace_bytes
unfolding namespace namespace_bytes
namespace-canonical strings = image-canonical _ _ _ _ (both-canonical _ _ _ _ namespace_kind-canonical (pool_index-canonical strings)) (λ x b s. refl)

pub namespace_set-canonical : (spaces : ℕ) → IsCanonical (namespace_set spaces) (counted_bytes number_bytes)
unfolding namespace_set
namespace_set-canonical spaces = counted-canonical _ _ (entry_index-canonical spaces)

multiname_code_back : (k : ℕ) → is_multiname_kind true k ≡ true → multiname_code (multiname_kind_of k) ≡ k
multiname_code_back k h = grind (arith, nat_tests)

multiname_kind-canonical : IsCanonical multiname_kind (λ k. multiname_code k ∷ [])
unfolding multiname_kind
multiname_kind-canonical = image-canonical _ _ _ _ (checked-canonical _ _ _ _ u8-canonical) (λ x b s. ap (λ (c : ℕ). c ∷ []) (sym (multiname_code_back x s.1)))

abbrev fields_bytes : Multiname → List ℕ
fields_bytes (names.QName attr n i) = number_bytes n ++ number_bytes i
fields_bytes (names.Rt attr i) = number_bytes i
fields_bytes (names.RtL attr) = []
fields_bytes (names.Multi attr i s) = number_bytes i ++ number_bytes s
fields_bytes (names.MultiL attr s) = number_bytes s
fields_bytes (names.TypeName base params) = number_bytes base ++ counted_bytes number_bytes params

multiname_fields-canonical : (strings spaces sets all : ℕ) (kind : MultinameKind) → IsCanonical (multiname_fields strings spaces sets all kind) fields_bytes
multiname_fields-canonical strings spaces sets all (kinds.QName attr) = image-canonical _ _ _ _ (both-canonical _ _ _ _ (pool_index-canonical spaces) (pool_index-canonical strings)) (λ x b s. refl)
multiname_fields-canonical strings spaces sets all (kinds.Rt attr) = image-canonical _ _ _ _ (pool_index-canonical strings) (λ x b s. refl)
multiname_fields-canonical strings spaces sets all (kinds.RtL attr) = done-canonical _ _ refl
multiname_fields-canonical strings spaces sets all (kinds.Multi attr) = image-canonical _ _ _ _ (both-canonical _ _ _ _ (pool_index-canonical strings) (entry_index-canonical sets)) (λ x b s. refl)
multiname_fields-canonical strings spaces sets all (kinds.MultiL attr) = image-canonical _ _ _ _ (entry_index-canonical sets) (λ x b s. refl)
multiname_fields-canonical strings spaces sets all kinds.TypeName =
    image-canonical _ _ _ _ (both-canonical _ _ _ (counted_bytes number_bytes) (entry_index-canonical all) (counted-canonical _ _ (pool_index-canonical all))) (λ x b s. refl)

kind_first : (strings spaces sets all : ℕ) (kind : MultinameKind) (m : Multiname) (b : List ℕ) → (multiname_fields strings spaces sets all kind).spells m b → multiname_code kind ∷ fields_bytes m ≡ multiname_bytes m
kind_first strings spaces sets all (kinds.QName attr) m b s = rw s.2 refl
kind_first strings spaces sets all (kinds.Rt attr) m b s = rw s.2 refl
kind_first strings spaces sets all (kinds.RtL attr) m b s = rw s.0 refl
kind_first strings spaces sets all (kinds.Multi attr) m b s = rw s.2 refl
kind_first strings spaces sets all (kinds.MultiL attr) m b s = rw s.2 refl
kind_first strings spaces sets all kinds.TypeName m b s = rw s.2 refl

pub multiname-canonical : (strings spaces sets all : ℕ) → IsCanonical (multiname strings spaces sets all) multiname_bytes
unfolding multiname
multiname-canonical strings spaces sets all =
    image-canonical _ _ _ _ (then-canonical _ _ (λ k. multiname_code k ∷ []) (λ k. fields_bytes) multiname_kind-canonical (multiname_fields-canonical strings spaces sets all))
    (λ x b s. kind_first strings spaces sets all x.0 x.1 s.1 s.4)

pub multinames-canonical : (strings spaces sets : ℕ) → IsCanonical (multinames strings spaces sets) (pool_bytes multiname_bytes)
unfolding multinames
multinames-canonical strings spaces sets = pool_by-canonical _ _ (multiname-canonical strings spaces sets)

pub pools-canonical : IsCanonical pools pools_bytes
unfolding pools pools_bytes
pools-canonical =
    image-canonical _ _ _ _
    (both-canonical _ _ _ _ (pool-canonical _ _ s32-canonical) (both-canonical _ _ _ _ (pool-canonical _ _ u32-canonical) (both-canonical _ _ _ _ (pool-canonical _ _ double-canonical)
    (then-canonical _ _ (pool_bytes text_bytes) _ (pool-canonical _ _ text-canonical) (λ strings.
    then-canonical _ _ (pool_bytes namespace_bytes) _ (pool-canonical _ _ (namespace-canonical (length strings))) (λ spaces.
    then-canonical _ _ (pool_bytes (counted_bytes number_bytes)) (λ sets. pool_bytes multiname_bytes) (pool-canonical _ _ (namespace_set-canonical (length spaces))) (λ sets.
    multinames-canonical (length strings) (length spaces) (length sets))))))))
    (λ x b s. simp append_assoc)

-- ---- methods and metadata

value_code_back : (k : ℕ) → is_value_kind k ≡ true → value_code (value_kind_of k) ≡ k
value_code_back k h = grind (arith, nat_tests)

pub value_kind-canonical : IsCanonical value_kind (λ k. value_code k ∷ [])
unfolding value_kind
value_kind-canonical = image-canonical _ _ _ _ (checked-canonical _ _ _ _ u8-canonical) (λ x b s. ap (λ (c : ℕ). c ∷ []) (sym (value_code_back x s.1)))

pub option_value-canonical : (v : Sizes) → IsCanonical (option_value v) option_bytes
unfolding option_value option_bytes
option_value-canonical v = image-canonical _ _ _ _ (checked-canonical _ _ _ _ (both-canonical _ _ _ _ u30-canonical value_kind-canonical)) (λ x b s. refl)

pub options-canonical : (v : Sizes) (params : ℕ) → IsCanonical (options v params) (counted_bytes option_bytes)
unfolding options counted_bytes
options-canonical v params =
    image-canonical (λ (x : ℕ × List OptionValue). x.1) _ (λ x. number_bytes x.0 ++ flat_map option_bytes x.1) (λ xs. number_bytes (length xs) ++ flat_map option_bytes xs)
    (then-canonical _ _ number_bytes (λ c. flat_map option_bytes) (checked-canonical _ _ _ _ u30-canonical) (λ c. times-canonical c _ _ (option_value-canonical v)))
    (λ x b s. ap (λ (n : ℕ). number_bytes n ++ flat_map option_bytes x.1) (sym (times_length x.0 (option_value v) x.1 s.1 s.4)))

pub method-canonical : (v : Sizes) → IsCanonical (method v) method_bytes
unfolding method method_bytes
method-canonical v =
    image-canonical _ _ _ _
    (then-canonical _ _ number_bytes _ u30-canonical (λ params.
    both-canonical _ _ _ _ (pool_index-canonical v.names) (both-canonical _ _ _ _ (times-canonical params _ _ (pool_index-canonical v.names)) (both-canonical _ _ _ _ (pool_index-canonical v.strings)
    (then-canonical _ _ (λ flags. flags ∷ []) (λ flags x. cond (has_flag flags 0x08) (counted_bytes option_bytes x.0) [] ++ cond (has_flag flags 0x80) (flat_map number_bytes x.1) []) u8-canonical (λ flags.
    both-canonical _ _ (λ o. cond (has_flag flags 0x08) (counted_bytes option_bytes o) []) (λ n. cond (has_flag flags 0x80) (flat_map number_bytes n) [])
    (when-canonical (has_flag flags 0x08) _ _ _ (options-canonical v params)) (when-canonical (has_flag flags 0x80) _ _ _ (times-canonical params _ _ u30-canonical))))))))
    (λ x b s. rw (sym (times_length x.0 (pool_index v.names) x.1.1.0 s.4.4.0 s.4.4.3)) (simp append_assoc))

pub metadata-canonical : (v : Sizes) → IsCanonical (metadata v) metadata_bytes
unfolding metadata metadata_bytes
metadata-canonical v =
    image-canonical _ _ (λ x. number_bytes x.0 ++ (number_bytes x.1.0 ++ flat_map number_bytes x.1.1)) _
    (both-canonical _ _ _ (λ y. number_bytes y.0 ++ flat_map number_bytes y.1) (pool_index-canonical v.strings)
    (then-canonical _ _ number_bytes (λ n. flat_map number_bytes) u30-canonical (λ n. times-canonical (2 * n) _ _ (pool_index-canonical v.strings))))
    (λ x b s.
    let len = times_length (2 * x.1.0) (pool_index v.strings) x.1.1 s.4.1 s.4.4 in
    let half : x.1.0 ≡ length x.1.1 / 2 = omega arith in
    ap (λ (n : ℕ). number_bytes x.0 ++ (number_bytes n ++ flat_map number_bytes x.1.1)) half ∙ simp append_assoc)

-- ---- traits

trait_code_back : (k : ℕ) → nat_le k 6 ≡ true → trait_code (trait_kind_of k) ≡ k
trait_code_back k h = grind (arith, nat_tests)

abbrev pub kind_byte : TraitKind × ℕ → ℕ
kind_byte k = 16 * (k.1 % 16) + trait_code k.0

pub kind_byte_low : (a : ℕ) (kind : TraitKind) → (16 * a + trait_code kind) % 16 ≡ trait_code kind
kind_byte_low a traits.Slot = omega arith
kind_byte_low a traits.Method = omega arith
kind_byte_low a traits.Getter = omega arith
kind_byte_low a traits.Setter = omega arith
kind_byte_low a traits.Class = omega arith
kind_byte_low a traits.Function = omega arith
kind_byte_low a traits.Const = omega arith

trait_kind_back : (kind : TraitKind) → trait_kind_of (trait_code kind) ≡ kind
trait_kind_back traits.Slot = refl
trait_kind_back traits.Method = refl
trait_kind_back traits.Getter = refl
trait_kind_back traits.Setter = refl
trait_kind_back traits.Class = refl
trait_kind_back traits.Function = refl
trait_kind_back traits.Const = refl

pub trait_code_low : (kind : TraitKind) → nat_le (trait_code kind) 6 ≡ true
trait_code_low traits.Slot = refl
trait_code_low traits.Method = refl
trait_code_low traits.Getter = refl
trait_code_low traits.Setter = refl
trait_code_low traits.Class = refl
trait_code_low traits.Function = refl
trait_code_low traits.Const = refl

abbrev pub kind_and_attributes : ℕ → TraitKind × ℕ
kind_and_attributes b = (trait_kind_of (b % 16), b / 16 % 16)

pub kind_byte_back : (kind : TraitKind) (a : ℕ) → a < 16 → (kind, a) ≡ kind_and_attributes (kind_byte (kind, a))
kind_byte_back kind a lt =
    let low = kind_byte_low (a % 16) kind in
    let high : (16 * (a % 16) + trait_code kind) / 16 % 16 ≡ a = omega arith in
    rw (low, trait_kind_back kind, high) refl

pub trait_kind-canonical : IsCanonical trait_kind (λ k. kind_byte k ∷ [])
unfolding trait_kind u8
trait_kind-canonical = record {
  spelled = λ k b s.
      let x = s.0 in
      let back : k ≡ kind_and_attributes (kind_byte k) = rw s.2 (kind_byte_back (trait_kind_of (x % 16)) (x / 16 % 16) (omega arith)) in
      let low : nat_le (kind_byte k % 16) 6 ≡ true = rw (kind_byte_low (k.1 % 16) k.0) (trait_code_low k.0) in
      (kind_byte k, (refl, low), back);
  shortest = λ k b s. rw s.1.0 (omega arith);
  least = λ k b s len.
      let x = s.0 in
      let low = trait_code_back (x % 16) s.1.1 in
      let is : kind_byte k ≡ 16 * (x / 16 % 16) + x % 16 = rw (s.2, low) (omega arith) in
      rw s.1.0 (omega (arith, is), tt);
}

slot_bytes_by : (zero_test : Bool) (n : ℕ) (kind : ValueKind) → (zero_test ≡ true → n ≡ 0)
    → number_bytes n ++ cond (not zero_test) (value_code kind ∷ []) [] ≡ slot_value_bytes (cond zero_test None (Some (record { kind = kind; value = n })))
unfolding option_bytes
slot_bytes_by true n kind is = append-nil (number_bytes n) ∙ ap number_bytes (is refl)
slot_bytes_by false n kind is = refl

is_zero : (n : ℕ) → nat_eq n 0 ≡ true → n ≡ 0
is_zero n h = grind (arith, nat_tests)

slot_bytes : (n : ℕ) (kind : ValueKind) → number_bytes n ++ cond (not (nat_eq n 0)) (value_code kind ∷ []) [] ≡ slot_value_bytes (slot_value_of n kind)
slot_bytes n kind = slot_bytes_by (nat_eq n 0) n kind (is_zero n)

pub slot_value-canonical : (v : Sizes) → IsCanonical (slot_value v) slot_value_bytes
unfolding slot_value
slot_value-canonical v =
    image-canonical _ _ (λ x. number_bytes x.0 ++ cond (not (nat_eq x.0 0)) (value_code x.1 ∷ []) []) _
    (checked-canonical _ _ _ _ (then-canonical _ _ number_bytes (λ n kind. cond (not (nat_eq n 0)) (value_code kind ∷ []) []) u30-canonical (λ n. when-canonical (not (nat_eq n 0)) _ _ _ value_kind-canonical)))
    (λ x b s. slot_bytes x.0 x.1)

trait_fields-canonical : (v : Sizes) (kind : TraitKind) → IsCanonical (trait_fields v kind) trait_fields_bytes
trait_fields-canonical v traits.Slot = image-canonical _ _ _ _ (both-canonical _ _ _ _ u30-canonical (both-canonical _ _ _ _ (pool_index-canonical v.names) (slot_value-canonical v))) (λ x b s. simp append_assoc)
trait_fields-canonical v traits.Const = image-canonical _ _ _ _ (both-canonical _ _ _ _ u30-canonical (both-canonical _ _ _ _ (pool_index-canonical v.names) (slot_value-canonical v))) (λ x b s. simp append_assoc)
trait_fields-canonical v traits.Method = image-canonical _ _ _ _ (both-canonical _ _ _ _ u30-canonical (index_below-canonical v.methods)) (λ x b s. refl)
trait_fields-canonical v traits.Getter = image-canonical _ _ _ _ (both-canonical _ _ _ _ u30-canonical (index_below-canonical v.methods)) (λ x b s. refl)
trait_fields-canonical v traits.Setter = image-canonical _ _ _ _ (both-canonical _ _ _ _ u30-canonical (index_below-canonical v.methods)) (λ x b s. refl)
trait_fields-canonical v traits.Class = image-canonical _ _ _ _ (both-canonical _ _ _ _ u30-canonical (index_below-canonical v.classes)) (λ x b s. refl)
trait_fields-canonical v traits.Function = image-canonical _ _ _ _ (both-canonical _ _ _ _ u30-canonical (index_below-canonical v.methods)) (λ x b s. refl)

kind_of_fields : (v : Sizes) (kind : TraitKind) (t : TraitBody) (b : List ℕ) → (trait_fields v kind).spells t b → kind ≡ trait_kind_in t
kind_of_fields v traits.Slot t b s = rw s.2 refl
kind_of_fields v traits.Const t b s = rw s.2 refl
kind_of_fields v traits.Method t b s = rw s.2 refl
kind_of_fields v traits.Getter t b s = rw s.2 refl
kind_of_fields v traits.Setter t b s = rw s.2 refl
kind_of_fields v traits.Class t b s = rw s.2 refl
kind_of_fields v traits.Function t b s = rw s.2 refl

pub trait_info-canonical : (v : Sizes) → IsCanonical (trait_info v) trait_bytes
unfolding trait_info trait_bytes
trait_info-canonical v =
    image-canonical _ _ (λ x. number_bytes x.0 ++ (kind_byte x.1.0 ∷ [] ++ (trait_fields_bytes x.1.1.0 ++ cond (has_flag x.1.0.1 4) (counted_bytes number_bytes x.1.1.1) []))) _
    (both-canonical _ _ _ _ (entry_index-canonical v.names)
    (then-canonical _ _ (λ k. kind_byte k ∷ []) (λ k y. trait_fields_bytes y.0 ++ cond (has_flag k.1 4) (counted_bytes number_bytes y.1) []) trait_kind-canonical (λ k.
    both-canonical _ _ _ (λ m. cond (has_flag k.1 4) (counted_bytes number_bytes m) []) (trait_fields-canonical v k.0) (when-canonical (has_flag k.1 4) _ _ _ (counted-canonical _ _ (index_below-canonical v.metadata))))))
    (λ x b s.
    let kind : x.1.0.0 ≡ trait_kind_in x.1.1.0 = kind_of_fields v x.1.0.0 x.1.1.0 s.4.4.0 s.4.4.3 in
    ap (λ (k : TraitKind). number_bytes x.0 ++ ((16 * (x.1.0.1 % 16) + trait_code k) ∷ [] ++ (trait_fields_bytes x.1.1.0 ++ cond (has_flag x.1.0.1 4) (counted_bytes number_bytes x.1.1.1) []))) kind ∙ simp append_assoc)

-- ---- classes and scripts

protected-canonical : (flag : Bool) (spaces : ℕ) → IsCanonical (when flag None (image some_index (pool_index spaces))) protected_bytes
unfolding when
protected-canonical true spaces = image-canonical _ _ _ _ (pool_index-canonical spaces) (λ x b s. refl)
protected-canonical false spaces = done-canonical _ _ refl

pub instance-canonical : (v : Sizes) → IsCanonical (instance v) instance_bytes
unfolding instance instance_bytes
instance-canonical v =
    image-canonical _ _ _ _
    (both-canonical _ _ _ _ (entry_index-canonical v.names) (both-canonical _ _ _ _ (pool_index-canonical v.names)
    (then-canonical _ _ (λ flags. flags ∷ []) (λ flags y. protected_bytes y.0 ++ (counted_bytes number_bytes y.1.0 ++ (number_bytes y.1.1.0 ++ counted_bytes trait_bytes y.1.1.1))) u8-canonical (λ flags.
    both-canonical _ _ _ _ (protected-canonical (has_flag flags 0x08) v.namespaces)
    (both-canonical _ _ _ _ (counted-canonical _ _ (entry_index-canonical v.names)) (both-canonical _ _ _ _ (index_below-canonical v.methods) (counted-canonical _ _ (trait_info-canonical v))))))))
    (λ x b s. simp append_assoc)

pub class_info-canonical : (v : Sizes) → IsCanonical (class_info v) class_bytes
unfolding class_info class_bytes
class_info-canonical v = image-canonical _ _ _ _ (both-canonical _ _ _ _ (index_below-canonical v.methods) (counted-canonical _ _ (trait_info-canonical v))) (λ x b s. refl)

pub script-canonical : (v : Sizes) → IsCanonical (script v) script_bytes
unfolding script script_bytes
script-canonical v = image-canonical _ _ _ _ (both-canonical _ _ _ _ (index_below-canonical v.methods) (counted-canonical _ _ (trait_info-canonical v))) (λ x b s. refl)

abbrev classes_bytes : ℕ × (List Instance × (List ClassInfo × List Script)) → List ℕ
classes_bytes y = number_bytes y.0 ++ (flat_map instance_bytes y.1.0 ++ (flat_map class_bytes y.1.1.0 ++ counted_bytes script_bytes y.1.1.1))

pub definitions-canonical : (abc : Abc) → IsCanonical (definitions abc) definitions_bytes
unfolding definitions definitions_bytes
definitions-canonical abc =
    image-canonical _ _ (λ x. counted_bytes method_bytes x.0 ++ (counted_bytes metadata_bytes x.1.0 ++ classes_bytes x.1.1)) _
    (then-canonical _ _ (counted_bytes method_bytes) (λ methods y. counted_bytes metadata_bytes y.0 ++ classes_bytes y.1) (counted-canonical _ _ (method-canonical (sizes_with abc 0 0 0))) (λ methods.
    then-canonical _ _ (counted_bytes metadata_bytes) (λ metadata. classes_bytes) (counted-canonical _ _ (metadata-canonical (sizes_with abc 0 0 0))) (λ metadata.
    then-canonical _ _ number_bytes (λ classes y. flat_map instance_bytes y.0 ++ (flat_map class_bytes y.1.0 ++ counted_bytes script_bytes y.1.1)) u30-canonical (λ classes.
    let v = sizes_with abc (length methods) (length metadata) classes in
    both-canonical _ _ _ (λ z. flat_map class_bytes z.0 ++ counted_bytes script_bytes z.1) (times-canonical classes _ _ (instance-canonical v))
    (both-canonical _ _ _ _ (times-canonical classes _ _ (class_info-canonical v)) (counted-canonical _ _ (script-canonical v)))))))
    (λ x b s.
    let v = sizes_with abc (length x.0) (length x.1.0) x.1.1.0 in
    let len : length x.1.1.1.1.0 ≡ x.1.1.0 = times_length x.1.1.0 (class_info v) x.1.1.1.1.0 s.4.4.4.4.0 s.4.4.4.4.3 in
    ap (λ (n : ℕ). counted_bytes method_bytes x.0 ++ (counted_bytes metadata_bytes x.1.0 ++ classes_bytes (n, x.1.1.1))) (sym len) ∙ simp append_assoc)
