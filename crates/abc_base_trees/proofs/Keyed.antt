-- Keys that are equal are one, and an added key leaves the others at their places.
use Rattle.std.proofs.Common.{◌≡◌, ℕ, zero, suc, ◌⊎◌, inl, inr, List, [], ◌∷◌, ◌++◌, Bool, true, false, ◌&&◌, ◌||◌, nat_eq, eqb-true, eq-eqb, length, slice_get, Some, if◌then◌else◌, refl, sym, ap, subst, ◌∙◌, true≢false}
use Rattle.std.specs.List.{list_any}
use Rattle.indexmap.specs.IndexSet.{insert_key}
use Rattle.abc_base_trees.specs.declared.keys.Key.{Key}
use Rattle.abc_base_trees.specs.Classes.{tree_keys_eq, AreDistinct, Extends}

pub and-left : (a b : Bool) → (a && b) ≡ true → a ≡ true
and-left true b e = refl
and-left false b e = e

pub and-right : (a b : Bool) → (a && b) ≡ true → b ≡ true
and-right true b e = e
and-right false b e = absurd (true≢false (sym e))

pub keys_same : (a b : Key) → tree_keys_eq a b ≡ true → a ≡ b
keys_same a b e =
    let r = and-right (nat_eq a.step b.step) _ e in
    let r2 = and-right (nat_eq a.kind b.kind) _ r in
    let step : a.step ≡ b.step = eqb-true _ _ (and-left _ _ e) in
    let kind : a.kind ≡ b.kind = eqb-true _ _ (and-left _ _ r) in
    let first : a.first ≡ b.first = eqb-true _ _ (and-left _ _ r2) in
    let second : a.second ≡ b.second = eqb-true _ _ (and-right (nat_eq a.first b.first) _ r2) in
    λ i. record { step = step i; kind = kind i; first = first i; second = second i }

pub keys_refl : (a : Key) → tree_keys_eq a a ≡ true
keys_refl a =
    let step = eq-eqb a.step a.step refl in
    let kind = eq-eqb a.kind a.kind refl in
    let first = eq-eqb a.first a.first refl in
    let second = eq-eqb a.second a.second refl in
    rw step (rw kind (rw first (rw second refl)))

-- what a set has stored at the place of a key is the key
pub stored_key : (keys : List Key) (c : ℕ) (k stored : Key) → slice_get keys c ≡ Some stored → tree_keys_eq k stored ≡ true → slice_get keys c ≡ Some k
stored_key keys c k stored at e = at ∙ ap Some (sym (keys_same k stored e))

slice_get-left : (xs ys : List Key) (i : ℕ) (k : Key) → slice_get xs i ≡ Some k → slice_get (xs ++ ys) i ≡ Some k
slice_get-left [] ys i k e = elim (no i e) [ ]
  where
    no : (i : ℕ) → slice_get [] i ≡ Some k → ⊥
    no i h = cc
slice_get-left (x ∷ xs) ys zero k e = e
slice_get-left (x ∷ xs) ys (suc i) k e = slice_get-left xs ys i k e

pub extends_refl : (keys : List Key) → Extends keys keys
extends_refl keys = record { keeps = λ c k e. e }

pub extends_then : (a b c : List Key) → Extends a b → Extends b c → Extends a c
extends_then a b c f g = record { keeps = λ i k e. g.keeps i k (f.keeps i k e) }

pub insert_extends : (keys : List Key) (k : Key) → Extends keys (insert_key tree_keys_eq keys k)
insert_extends keys k = by (list_any (tree_keys_eq k) keys) refl
  where
    by : (b : Bool) → list_any (tree_keys_eq k) keys ≡ b → Extends keys (insert_key tree_keys_eq keys k)
    by true e = subst (Extends keys) (sym (ap (λ c. if c then keys else keys ++ k ∷ []) e)) (extends_refl keys)
    by false e = subst (Extends keys) (sym (ap (λ c. if c then keys else keys ++ k ∷ []) e)) (record { keeps = λ i x h. slice_get-left keys (k ∷ []) i x h })

-- a key that is found stands among the keys
any_at : (keys : List Key) (i : ℕ) (k : Key) → slice_get keys i ≡ Some k → list_any (tree_keys_eq k) keys ≡ true
any_at [] i k e = elim (no i e) [ ]
  where
    no : (i : ℕ) → slice_get [] i ≡ Some k → ⊥
    no i h = cc
any_at (x ∷ xs) zero k e =
    let q : x ≡ k = cc in
    let s : tree_keys_eq k x ≡ true = subst (λ y. tree_keys_eq k y ≡ true) (sym q) (keys_refl k) in
    rw s refl
any_at (x ∷ xs) (suc i) k e = or-right (tree_keys_eq k x) _ (any_at xs i k e)
  where
    or-right : (a b : Bool) → b ≡ true → (a || b) ≡ true
    or-right true b h = refl
    or-right false b h = h

-- a key of a list with one more at its end is that one, or stands among the others
at_pushed : (xs : List Key) (k x : Key) (i : ℕ) → slice_get (xs ++ k ∷ []) i ≡ Some x → (slice_get xs i ≡ Some x) ⊎ ((i ≡ length xs) × (x ≡ k))
at_pushed [] k x zero e = inr (refl, let q : k ≡ x = cc in sym q)
at_pushed [] k x (suc i) e = elim (no i e) [ ]
  where
    no : (i : ℕ) → slice_get [] i ≡ Some x → ⊥
    no i h = cc
at_pushed (y ∷ xs) k x zero e = inl e
at_pushed (y ∷ xs) k x (suc i) e = go (at_pushed xs k x i e)
  where
    go : (slice_get xs i ≡ Some x) ⊎ ((i ≡ length xs) × (x ≡ k)) → (slice_get xs i ≡ Some x) ⊎ ((suc i ≡ length (y ∷ xs)) × (x ≡ k))
    go (inl h) = inl h
    go (inr (h, q)) = inr (ap suc h, q)

push_distinct : (keys : List Key) (k : Key) → AreDistinct keys → list_any (tree_keys_eq k) keys ≡ false → AreDistinct (keys ++ k ∷ [])
push_distinct keys k s new = record { one = λ c d x e f. go c d x (at_pushed keys k x c e) (at_pushed keys k x d f) }
  where
    go : (c d : ℕ) (x : Key) → (slice_get keys c ≡ Some x) ⊎ ((c ≡ length keys) × (x ≡ k)) → (slice_get keys d ≡ Some x) ⊎ ((d ≡ length keys) × (x ≡ k)) → c ≡ d
    go c d x (inl e) (inl f) = s.one c d x e f
    go c d x (inr (e, p)) (inr (f, q)) = e ∙ sym f
    go c d x (inl e) (inr (f, q)) = absurd (true≢false (sym (any_at keys c k (e ∙ ap Some q)) ∙ new))
    go c d x (inr (e, p)) (inl f) = absurd (true≢false (sym (any_at keys d k (f ∙ ap Some p)) ∙ new))

pub insert_distinct : (keys : List Key) (k : Key) → AreDistinct keys → AreDistinct (insert_key tree_keys_eq keys k)
insert_distinct keys k s = by (list_any (tree_keys_eq k) keys) refl
  where
    by : (b : Bool) → list_any (tree_keys_eq k) keys ≡ b → AreDistinct (insert_key tree_keys_eq keys k)
    by true e = subst AreDistinct (sym (ap (λ c. if c then keys else keys ++ k ∷ []) e)) s
    by false e = subst AreDistinct (sym (ap (λ c. if c then keys else keys ++ k ∷ []) e)) (push_distinct keys k s e)

pub none_distinct : AreDistinct []
none_distinct = record { one = λ c d k e f. absurd (no c k e) }
  where
    no : (c : ℕ) (k : Key) → slice_get [] c ≡ Some k → ⊥
    no c k h = cc
