-- Which values of the pools some bytes spell.
use Rattle.std.proofs.Common.{◌≡◌, ℕ, ℤ, ◌+◌, ◌^◌, ◌<◌, true, false, List, length, get_or, refl, sym, subst}
use Rattle.std.specs.Prelude.{◌↔◌, All, FitsSigned}
use Rattle.std.specs.Int.{w32}
use Rattle.std.proofs.lemmas.List.{get_or_default}
use Rattle.abc_file_types.specs.Lists.{count_and_items, pool, bytes_with_count, times}
use Rattle.abc_file_types.specs.Numbers.{entry_index, pool_index, s32, u32, u8}
use Rattle.abc_file_types.specs.Part.{Part, both, then_by}
use Rattle.abc_file_types.specs.declared.names.NsKind.{NsKind}
use Rattle.abc_file_types.specs.declared.names.NsKind.TheVariants as spaces
use Rattle.abc_file_types.specs.declared.names.Namespace.{Namespace}
use Rattle.abc_file_types.specs.declared.names.MultinameKind.{MultinameKind}
use Rattle.abc_file_types.specs.declared.names.MultinameKind.TheVariants as kinds
use Rattle.abc_file_types.specs.declared.names.Multiname.{Multiname}
use Rattle.abc_file_types.specs.declared.names.Multiname.TheVariants as names
use Rattle.abc_file_types.specs.declared.tables.Abc.{Abc}
use Rattle.abc_file_types.specs.declared.tables.Eight.{Eight}
use Rattle.abc_file_types.specs.declared.tables.Sizes.{Sizes}
use Rattle.abc_file_types.specs.Classes.{sizes_of}
use Rattle.abc_file_types.specs.Pools.{PoolValues, double, is_multiname_kind, is_namespace_kind, multiname, multiname_code, multiname_fields, multiname_kind, multiname_kind_of, multinames, namespace, namespace_code, namespace_kind, namespace_kind_of, namespace_set, pools, with_pools}
use Rattle.abc_tables.specs.Fitting.{FitsDouble, FitsInt, FitDoubles, FitInts, FitMultinames, FitNamespaces, FitNamespaceSets, FitPools, FitTexts, FitUints, FitsMultiname, FitsNamespace, FitsNamespaceSet, FitsText, IsEntryIndex, IsPoolIndex, Spelled, pools_alone}
use Rattle.abc_tables.proofs.Combined.{byte_spelled, checked_spelled, counted_spelled, done_is, done_spelled, every_byte, image_comes, image_spelled, pool_by_spelled, pool_spelled, s32_spelled, then_parts, then_spelled, times_spelled, u32_spelled}

-- ---- numbers

pub int_fits : (z : ℤ) → FitsSigned w32 z → FitsInt z
unfolding FitsInt
int_fits z signed = s32_spelled z signed

pub double_fits : (d : Eight) → FitsDouble d ↔ (length d.0 ≡ 8)
unfolding FitsDouble double
double_fits d = (
  λ s.
      let c = image_comes (λ (b : List ℕ). let made : Eight = record { 0 = b } in made) (times 8 u8) d s in
      subst (λ (e : Eight). length e.0 ≡ 8) (sym c.is) ((times_spelled 8 u8 c.from).0 c.spelled).0,
  λ e. image_spelled _ (times 8 u8) d.0 d refl ((times_spelled 8 u8 d.0).1 (e, every_byte d.0)),
)

-- ---- namespaces

space_again : (k : NsKind) → k ≡ namespace_kind_of (namespace_code k)
space_again spaces.Private = refl
space_again spaces.Namespace = refl
space_again spaces.Package = refl
space_again spaces.PackageInternal = refl
space_again spaces.Protected = refl
space_again spaces.Explicit = refl
space_again spaces.StaticProtected = refl

is_space : (k : NsKind) → is_namespace_kind (namespace_code k) ≡ true
is_space spaces.Private = refl
is_space spaces.Namespace = refl
is_space spaces.Package = refl
is_space spaces.PackageInternal = refl
is_space spaces.Protected = refl
is_space spaces.Explicit = refl
is_space spaces.StaticProtected = refl

namespace_kind_spelled : (k : NsKind) → Spelled namespace_kind k
unfolding namespace_kind
namespace_kind_spelled k = image_spelled namespace_kind_of _ (namespace_code k) k (space_again k) (checked_spelled _ _ u8 (namespace_code k) (byte_spelled (namespace_code k)) (is_space k))

pub namespace_fits : (strings : ℕ) (n : Namespace) → FitsNamespace strings n ↔ IsPoolIndex strings n.name
unfolding FitsNamespace IsPoolIndex namespace
namespace_fits strings n = (
  λ s.
      let c = image_comes (λ (x : NsKind × ℕ). let made : Namespace = record { kind = x.0; name = x.1 } in made) (both namespace_kind (pool_index strings)) n s in
      subst (λ (m : Namespace). Spelled (pool_index strings) m.name) (sym c.is) (then_parts namespace_kind (λ _. pool_index strings) c.from c.spelled).1,
  λ s. image_spelled _ _ (n.kind, n.name) n refl (then_spelled namespace_kind (λ _. pool_index strings) (n.kind, n.name) (namespace_kind_spelled n.kind) s),
)

pub namespace_set_fits : (spaces : ℕ) (xs : List ℕ) → FitsNamespaceSet spaces xs ↔ ((length xs < 2 ^ 30) × All (IsEntryIndex spaces) xs)
unfolding FitsNamespaceSet IsEntryIndex namespace_set
namespace_set_fits spaces xs = counted_spelled (entry_index spaces) xs

-- ---- multinames

kind_again : (k : MultinameKind) → k ≡ multiname_kind_of (multiname_code k)
kind_again (kinds.QName false) = refl
kind_again (kinds.QName true) = refl
kind_again (kinds.Rt false) = refl
kind_again (kinds.Rt true) = refl
kind_again (kinds.RtL false) = refl
kind_again (kinds.RtL true) = refl
kind_again (kinds.Multi false) = refl
kind_again (kinds.Multi true) = refl
kind_again (kinds.MultiL false) = refl
kind_again (kinds.MultiL true) = refl
kind_again kinds.TypeName = refl

is_kind : (k : MultinameKind) → is_multiname_kind true (multiname_code k) ≡ true
is_kind (kinds.QName false) = refl
is_kind (kinds.QName true) = refl
is_kind (kinds.Rt false) = refl
is_kind (kinds.Rt true) = refl
is_kind (kinds.RtL false) = refl
is_kind (kinds.RtL true) = refl
is_kind (kinds.Multi false) = refl
is_kind (kinds.Multi true) = refl
is_kind (kinds.MultiL false) = refl
is_kind (kinds.MultiL true) = refl
is_kind kinds.TypeName = refl

multiname_kind_spelled : (k : MultinameKind) → Spelled multiname_kind k
unfolding multiname_kind
multiname_kind_spelled k = image_spelled multiname_kind_of _ (multiname_code k) k (kind_again k) (checked_spelled _ _ u8 (multiname_code k) (byte_spelled (multiname_code k)) (is_kind k))

module _ (strings spaces sets all : ℕ) where
  -- the fields of a multiname are in their pools
  abbrev pub HasFields : Multiname → Type 0
  HasFields (names.QName attr n i) = IsPoolIndex spaces n × IsPoolIndex strings i
  HasFields (names.Rt attr i) = IsPoolIndex strings i
  HasFields (names.RtL attr) = Unit {0}
  HasFields (names.Multi attr i s) = IsPoolIndex strings i × IsEntryIndex sets s
  HasFields (names.MultiL attr s) = IsEntryIndex sets s
  HasFields (names.TypeName base params) = IsEntryIndex all base × (length params < 2 ^ 30) × All (IsPoolIndex all) params

  fields_in : (kind : MultinameKind) (m : Multiname) → Spelled (multiname_fields strings spaces sets all kind) m → HasFields m
  unfolding IsEntryIndex IsPoolIndex
  fields_in (kinds.QName attr) m s =
      let c = image_comes (λ (x : ℕ × ℕ). names.QName attr x.0 x.1) (both (pool_index spaces) (pool_index strings)) m s in
      subst HasFields (sym c.is) (then_parts (pool_index spaces) (λ _. pool_index strings) c.from c.spelled)
  fields_in (kinds.Rt attr) m s = let c = image_comes (λ x. names.Rt attr x) (pool_index strings) m s in subst HasFields (sym c.is) c.spelled
  fields_in (kinds.RtL attr) m s = subst HasFields (sym (done_is (names.RtL attr) m s)) tt
  fields_in (kinds.Multi attr) m s =
      let c = image_comes (λ (x : ℕ × ℕ). names.Multi attr x.0 x.1) (both (pool_index strings) (entry_index sets)) m s in
      subst HasFields (sym c.is) (then_parts (pool_index strings) (λ _. entry_index sets) c.from c.spelled)
  fields_in (kinds.MultiL attr) m s = let c = image_comes (λ x. names.MultiL attr x) (entry_index sets) m s in subst HasFields (sym c.is) c.spelled
  fields_in kinds.TypeName m s =
      let c = image_comes (λ (x : ℕ × List ℕ). names.TypeName x.0 x.1) (both (entry_index all) (count_and_items (pool_index all))) m s in
      let t = then_parts (entry_index all) (λ _. count_and_items (pool_index all)) c.from c.spelled in
      let params = (counted_spelled (pool_index all) c.from.1).0 t.1 in
      subst HasFields (sym c.is) (t.0, params.0, params.1)

  of_kind : (k : MultinameKind) (m : Multiname) → Spelled (multiname_fields strings spaces sets all k) m → Spelled (multiname strings spaces sets all) m
  unfolding multiname
  of_kind k m s =
      image_spelled (λ (x : MultinameKind × Multiname). x.1) _ (k, m) m refl
      (then_spelled multiname_kind (multiname_fields strings spaces sets all) (k, m) (multiname_kind_spelled k) s)

  with_fields : (m : Multiname) → HasFields m → Spelled (multiname strings spaces sets all) m
  unfolding IsEntryIndex IsPoolIndex
  with_fields (names.QName a n i) h =
      of_kind (kinds.QName a) (names.QName a n i) (image_spelled _ _ (n, i) (names.QName a n i) refl (then_spelled (pool_index spaces) (λ _. pool_index strings) (n, i) h.0 h.1))
  with_fields (names.Rt a i) h = of_kind (kinds.Rt a) (names.Rt a i) (image_spelled _ _ i (names.Rt a i) refl h)
  with_fields (names.RtL a) h = of_kind (kinds.RtL a) (names.RtL a) (done_spelled (names.RtL a) (names.RtL a) refl)
  with_fields (names.Multi a i s) h =
      of_kind (kinds.Multi a) (names.Multi a i s) (image_spelled _ _ (i, s) (names.Multi a i s) refl (then_spelled (pool_index strings) (λ _. entry_index sets) (i, s) h.0 h.1))
  with_fields (names.MultiL a s) h = of_kind (kinds.MultiL a) (names.MultiL a s) (image_spelled _ _ s (names.MultiL a s) refl h)
  with_fields (names.TypeName base params) h =
      of_kind kinds.TypeName (names.TypeName base params)
      (image_spelled _ _ (base, params) (names.TypeName base params) refl
      (then_spelled (entry_index all) (λ _. count_and_items (pool_index all)) (base, params) h.0 ((counted_spelled (pool_index all) params).1 (h.1, h.2))))

  multiname_spelled : (m : Multiname) → Spelled (multiname strings spaces sets all) m ↔ HasFields m
  unfolding multiname
  multiname_spelled m = (
    λ s.
        let c = image_comes (λ (x : MultinameKind × Multiname). x.1) (then_by multiname_kind (multiname_fields strings spaces sets all)) m s in
        subst HasFields (sym c.is) (fields_in c.from.0 c.from.1 (then_parts multiname_kind (multiname_fields strings spaces sets all) c.from c.spelled).1),
    with_fields m,
  )

pub multiname_fits : (v : Sizes) (m : Multiname) → FitsMultiname v m ↔ HasFields v.strings v.namespaces v.sets v.names m
unfolding FitsMultiname
multiname_fits v m = multiname_spelled v.strings v.namespaces v.sets v.names m

-- ---- each pool

pub ints_fit : (xs : List ℤ) → FitInts xs ↔ ((length xs + 1 < 2 ^ 30) × All FitsInt xs)
unfolding FitInts FitsInt
ints_fit xs = pool_spelled s32 xs

pub uints_fit : (xs : List ℕ) → ((i : ℕ) → get_or xs i 0 < 2 ^ 32) → FitUints xs ↔ (length xs + 1 < 2 ^ 30)
unfolding FitUints
uints_fit xs each =
    let p = pool_spelled u32 xs in
    let all : All (Spelled u32) xs = λ k d less. subst (Spelled u32) (sym (get_or_default xs k d 0 less)) (u32_spelled (get_or xs k 0) (each k)) in
    (λ s. (p.0 s).0, λ lt. p.1 (lt, all))

pub uints_few : (xs : List ℕ) → FitUints xs → length xs + 1 < 2 ^ 30
unfolding FitUints
uints_few xs s = ((pool_spelled u32 xs).0 s).0

pub doubles_fit : (xs : List Eight) → FitDoubles xs ↔ ((length xs + 1 < 2 ^ 30) × All FitsDouble xs)
unfolding FitDoubles FitsDouble
doubles_fit xs = pool_spelled double xs

pub texts_fit : (xs : List (List ℕ)) → FitTexts xs ↔ ((length xs + 1 < 2 ^ 30) × All FitsText xs)
unfolding FitTexts FitsText
texts_fit xs = pool_spelled bytes_with_count xs

pub namespaces_fit : (strings : ℕ) (xs : List Namespace) → FitNamespaces strings xs ↔ ((length xs + 1 < 2 ^ 30) × All (FitsNamespace strings) xs)
unfolding FitNamespaces FitsNamespace
namespaces_fit strings xs = pool_spelled (namespace strings) xs

pub namespace_sets_fit : (spaces : ℕ) (xs : List (List ℕ)) → FitNamespaceSets spaces xs ↔ ((length xs + 1 < 2 ^ 30) × All (FitsNamespaceSet spaces) xs)
unfolding FitNamespaceSets FitsNamespaceSet
namespace_sets_fit spaces xs = pool_spelled (namespace_set spaces) xs

pub multinames_fit : (v : Sizes) (xs : List Multiname) → v.names ≡ length xs → FitMultinames v xs ↔ ((length xs + 1 < 2 ^ 30) × All (FitsMultiname v) xs)
unfolding FitMultinames FitsMultiname multinames
multinames_fit v xs e =
    subst (λ (k : ℕ). Spelled (multinames v.strings v.namespaces v.sets) xs ↔ ((length xs + 1 < 2 ^ 30) × All (Spelled (multiname v.strings v.namespaces v.sets k)) xs)) (sym e)
    (pool_by_spelled (multiname v.strings v.namespaces v.sets) xs)

-- ---- all pools

-- some bytes spell each pool
pub record ArePools (v : Abc) : Type 0 where
  pub ints : FitInts v.ints
  pub uints : FitUints v.uints
  pub doubles : FitDoubles v.doubles
  pub strings : FitTexts v.strings
  pub namespaces : FitNamespaces (length v.strings) v.namespaces
  pub sets : FitNamespaceSets (length v.namespaces) v.sets
  pub names : FitMultinames (sizes_of v) v.names

abbrev after_sets : ℕ → ℕ → List (List ℕ) → Part (List Multiname)
after_sets strings spaces sets = multinames strings spaces (length sets)

abbrev after_spaces : ℕ → List Namespace → Part (List (List ℕ) × List Multiname)
after_spaces strings spaces = then_by (pool (namespace_set (length spaces))) (after_sets strings (length spaces))

abbrev after_strings : List (List ℕ) → Part (List Namespace × (List (List ℕ) × List Multiname))
after_strings strings = then_by (pool (namespace (length strings))) (after_spaces (length strings))

abbrev from_strings : Part (List (List ℕ) × (List Namespace × (List (List ℕ) × List Multiname)))
from_strings = then_by (pool bytes_with_count) after_strings

pools_in : (x : PoolValues) → Spelled (both (pool s32) (both (pool u32) (both (pool double) from_strings))) x → ArePools (with_pools x)
unfolding FitDoubles FitInts FitMultinames FitNamespaces FitNamespaceSets FitTexts FitUints
pools_in x s =
    let a = then_parts (pool s32) (λ _. both (pool u32) (both (pool double) from_strings)) x s in
    let b = then_parts (pool u32) (λ _. both (pool double) from_strings) x.1 a.1 in
    let c = then_parts (pool double) (λ _. from_strings) x.1.1 b.1 in
    let d = then_parts (pool bytes_with_count) after_strings x.1.1.1 c.1 in
    let e = then_parts (pool (namespace (length x.1.1.1.0))) (after_spaces (length x.1.1.1.0)) x.1.1.1.1 d.1 in
    let f = then_parts (pool (namespace_set (length x.1.1.1.1.0))) (after_sets (length x.1.1.1.0) (length x.1.1.1.1.0)) x.1.1.1.1.1 e.1 in
    record { ints = a.0; uints = b.0; doubles = c.0; strings = d.0; namespaces = e.0; sets = f.0; names = f.1 }

pools_from : (x : PoolValues) → ArePools (with_pools x) → Spelled (both (pool s32) (both (pool u32) (both (pool double) from_strings))) x
unfolding FitDoubles FitInts FitMultinames FitNamespaces FitNamespaceSets FitTexts FitUints
pools_from x p =
    then_spelled (pool s32) (λ _. both (pool u32) (both (pool double) from_strings)) x p.ints
    (then_spelled (pool u32) (λ _. both (pool double) from_strings) x.1 p.uints
    (then_spelled (pool double) (λ _. from_strings) x.1.1 p.doubles
    (then_spelled (pool bytes_with_count) after_strings x.1.1.1 p.strings
    (then_spelled (pool (namespace (length x.1.1.1.0))) (after_spaces (length x.1.1.1.0)) x.1.1.1.1 p.namespaces
    (then_spelled (pool (namespace_set (length x.1.1.1.1.0))) (after_sets (length x.1.1.1.0) (length x.1.1.1.1.0)) x.1.1.1.1.1 p.sets p.names)))))

abbrev values_of : Abc → PoolValues
values_of v = (v.ints, (v.uints, (v.doubles, (v.strings, (v.namespaces, (v.sets, v.names))))))

pub pools_fit : (v : Abc) → FitPools v ↔ ArePools v
unfolding FitPools pools FitMultinames
pools_fit v = (
  λ s.
      let c = image_comes with_pools (both (pool s32) (both (pool u32) (both (pool double) from_strings))) (pools_alone v) s in
      let p : ArePools (pools_alone v) = subst ArePools (sym c.is) (pools_in c.from c.spelled) in
      record { ints = p.ints; uints = p.uints; doubles = p.doubles; strings = p.strings; namespaces = p.namespaces; sets = p.sets; names = p.names },
  λ p.
      image_spelled with_pools (both (pool s32) (both (pool u32) (both (pool double) from_strings))) (values_of v) (pools_alone v) refl
      (pools_from (values_of v) (record { ints = p.ints; uints = p.uints; doubles = p.doubles; strings = p.strings; namespaces = p.namespaces; sets = p.sets; names = p.names })),
)
