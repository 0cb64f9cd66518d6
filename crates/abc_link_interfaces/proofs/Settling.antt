-- Sets that are put there one after the other.
use Rattle.std.proofs.Common.{◌≡◌, ℕ, zero, suc, ◌+◌, ◌<◌, ◌≤◌, ◌⊎◌, inl, inr, Bool, true, List, [], ◌∷◌, ◌++◌, Some, None, eq-eqb, eqb-true, get_or, length, nat_eq, set, slice_get, refl, sym, ap, subst, ◌∙◌, arith, length-append, length-set}
use Rattle.std.specs.declared.option.Option.{Option}
use Rattle.std.specs.List.{list_any}
use Rattle.std.specs.Prelude.{◌↔◌, IsTrue}
use Rattle.std.proofs.lemmas.Bool.{cases_lt}
use Rattle.std.proofs.lemmas.List.{get_or_default}
use Rattle.abc_link_names.specs.Interfaces.{class_graph}
use Rattle.abc_file_types.specs.declared.tables.Abc.{Abc}
use Rattle.abc_link_interfaces.specs.Sets.{AreSets, AreUnset, HasAllSets, IsAbove, IsSetOf, ListsBelow, Set, Settles, SettlesEach, is_settled, is_set_there, keys_at}
use Rattle.abc_link_interfaces.proofs.Uniting.{known_set}
use Rattle.abc_link_names.proofs.ItemsPairs.{any_found, any_makes}
use Rattle.abc_link_interfaces.proofs.Graphs.{as_many}

-- ---- one set

here : {A : Type 0} (xs : List A) (k : ℕ) (x : A) → k < length xs → slice_get (set xs k x) k ≡ Some x
here [] k x lt = absurd (omega arith)
here (y ∷ xs) zero x lt = refl
here (y ∷ xs) (suc k) x lt = here xs k x (omega arith)

-- what stands at a place after a write is what was written, or what stood there
elsewhere : {A : Type 0} (xs : List A) (k : ℕ) (x : A) (i : ℕ) → (i ≡ k) ⊎ (slice_get (set xs k x) i ≡ slice_get xs i)
elsewhere [] k x i = inr refl
elsewhere (y ∷ xs) zero x zero = inl refl
elsewhere (y ∷ xs) zero x (suc i) = inr refl
elsewhere (y ∷ xs) (suc k) x zero = inr refl
elsewhere (y ∷ xs) (suc k) x (suc i) = go (elsewhere xs k x i)
  where
    go : (i ≡ k) ⊎ (slice_get (set xs k x) i ≡ slice_get xs i) → (suc i ≡ suc k) ⊎ (slice_get (set (y ∷ xs) (suc k) x) (suc i) ≡ slice_get (y ∷ xs) (suc i))
    go (inl e) = inl (ap suc e)
    go (inr e) = inr e

pub stays : (v : Abc) (sets : List (Option Set)) (k : ℕ) → AreSets v sets → (k < length sets → is_settled sets k ≡ true) → Settles v sets sets k
stays v sets k a h = record { len = refl; are = a; keeps = λ x e. e; here = h }

pub put : (v : Abc) (old new : List (Option Set)) (k : ℕ) (s : Set) → AreSets v old → IsSetOf v k s → k < length old → new ≡ set old k (Some s) → Settles v old new k
put v old new k s a is lt e = subst (λ (ss : List (Option Set)). Settles v old ss k) (sym e) (record {
  len = length-set old k (Some s);
  are = record { exact = λ x t f. exact x t f (elsewhere old k (Some s) x) };
  keeps = λ x f. keeps x f (elsewhere old k (Some s) x);
  here = λ low. ap is_set_there (here old k (Some s) lt);
})
  where
    exact : (x : ℕ) (t : Set) → slice_get (set old k (Some s)) x ≡ Some (Some t) → (x ≡ k) ⊎ (slice_get (set old k (Some s)) x ≡ slice_get old x) → IsSetOf v x t
    exact x t f (inl q) =
        let at : slice_get (set old k (Some s)) x ≡ Some (Some s) = ap (slice_get (set old k (Some s))) q ∙ here old k (Some s) lt in
        let same : s ≡ t = cc in
        subst (λ n. IsSetOf v n t) (sym q) (subst (λ (u : Set). IsSetOf v k u) same is)
    exact x t f (inr q) = a.exact x t (sym q ∙ f)

    keeps : (x : ℕ) → is_settled old x ≡ true → (x ≡ k) ⊎ (slice_get (set old k (Some s)) x ≡ slice_get old x) → is_settled (set old k (Some s)) x ≡ true
    keeps x f (inl q) = ap (λ n. is_set_there (slice_get (set old k (Some s)) n)) q ∙ ap is_set_there (here old k (Some s) lt)
    keeps x f (inr q) = ap is_set_there q ∙ f

-- ---- all sets

pub unset_none : AreUnset [] 0
unset_none = record { len = refl; none = λ k s e. cc }

pushed_none : (sets : List (Option Set)) (k : ℕ) (s : Set) → slice_get (sets ++ None ∷ []) k ≡ Some (Some s) → slice_get sets k ≡ Some (Some s)
pushed_none [] zero s e = cc
pushed_none [] (suc k) s e = cc
pushed_none (x ∷ sets) zero s e = e
pushed_none (x ∷ sets) (suc k) s e = pushed_none sets k s e

pub unset_next : (old new : List (Option Set)) (n : ℕ) → AreUnset old n → new ≡ old ++ None ∷ [] → AreUnset new (n + 1)
unset_next old new n h e = subst (λ (ss : List (Option Set)). AreUnset ss (n + 1)) (sym e) (record {
  len = length-append old (None ∷ []) ∙ ap (λ m. m + 1) h.len;
  none = λ k s f. h.none k s (pushed_none old k s f);
})

pub begun : (v : Abc) (sets : List (Option Set)) (count : ℕ) (nodes : List ℕ) → AreUnset sets count → SettlesEach v count sets nodes 0
begun v sets count nodes h = record { len = h.len; are = record { exact = λ k s e. absurd (h.none k s e) }; each = λ j lt. absurd (omega arith) }

pub next : (v : Abc) (count : ℕ) (old new : List (Option Set)) (nodes : List ℕ) (i k : ℕ) → SettlesEach v count old nodes i → Settles v old new k → get_or nodes i 0 ≡ k → SettlesEach v count new nodes (i + 1)
next v count old new nodes i k h s e = record { len = s.len ∙ h.len; are = s.are; each = λ j lt low. go j lt low (cases_lt j i) }
  where
    go : (j : ℕ) → j < i + 1 → get_or nodes j 0 < count → (j < i) ⊎ (i ≤ j) → is_settled new (get_or nodes j 0) ≡ true
    go j lt low (inl less) = s.keeps (get_or nodes j 0) (h.each j less low)
    go j lt low (inr le) =
        let q : j ≡ i = omega arith in
        let at : get_or nodes j 0 ≡ k = ap (λ n. get_or nodes n 0) q ∙ e in
        ap (is_settled new) at ∙ s.here (let l = h.len in omega (arith, at, low, l))

pub all_settled : (v : Abc) (g : List (List ℕ)) (sets : List (Option Set)) (nodes : List ℕ) → g ≡ class_graph v → SettlesEach v (length g) sets nodes (length nodes) → ListsBelow nodes (length g) → HasAllSets v sets
all_settled v g sets nodes is_g h l = record { are = h.are; all = all }
  where
    all : (k : ℕ) → k < length v.instances → is_settled sets k ≡ true
    all k lt =
        let n = as_many v g is_g in
        let low : k < length g = omega (arith, n) in
        let c = l.lists k low in
        let at : get_or nodes c.0 0 ≡ k = get_or_default nodes c.0 0 k c.1 ∙ c.2 in
        sym (ap (is_settled sets) at) ∙ h.each c.0 c.1 (omega (arith, at, low))

-- what a set of a class has
pub has_above : (v : Abc) (sets : List (Option Set)) (k i : ℕ) (b : Bool) → HasAllSets v sets → k < length v.instances → b ≡ list_any (nat_eq i) (keys_at sets k) → IsTrue b ↔ IsAbove v k i
has_above v sets k i b h lt e = (
  λ t. let f = any_found (nat_eq i) (keys_at sets k) 0 (sym e ∙ t) in
      let q : i ≡ get_or (keys_at sets k) f.0 0 = eqb-true i (get_or (keys_at sets k) f.0 0) f.2 in
      s.sound i (f.0, f.1, get_or_default (keys_at sets k) f.0 i 0 f.1 ∙ sym q),
  λ a. let c = s.complete i a in
      e ∙ any_makes (nat_eq i) (keys_at sets k) i c.0 c.1 (eq-eqb i (get_or (keys_at sets k) c.0 i) (sym c.2)),
)
  where
    s : IsSetOf v k (keys_at sets k)
    s = known_set v sets k h.are (h.all k lt)
