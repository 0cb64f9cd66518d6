-- Lists, and the cells of lists of objects.
use Rattle.std.proofs.Common.{◌≡◌, ◌⊎◌, inl, inr, ℕ, zero, suc, ◌+◌, ◌≤◌, ◌<◌, List, [], ◌∷◌, ◌++◌, length, drop, set, refl, ap, subst, arith}
use Rattle.std.specs.Prelude.{slice_get, Some}
use Rattle.abc_heap_store.specs.Changes.{change}
use Rattle.abc_heap_store.specs.Heap.{Object, all_cells, cells_of, object_at}
use Rattle.abc_objects.specs.Stands.{EachAt}
use Rattle.abc_verify_typing.specs.Lists.{Each, Each2}

pub cells_append : (xs ys : List Object) → all_cells (xs ++ ys) ≡ all_cells xs + all_cells ys
cells_append [] ys = omega arith
cells_append (x ∷ xs) ys = let e = cells_append xs ys in omega (arith, e)

pub change_at : (f : Object → Object) (o : ℕ) (xs : List Object) (i : ℕ) (y : Object) → slice_get (change f o xs) i ≡ Some y → (slice_get xs i ≡ Some y) ⊎ ((x : Object) × (i ≡ o) × (slice_get xs o ≡ Some x) × (f x ≡ y))
change_at f o [] i y e = inl e
change_at f zero (x ∷ xs) zero y e = inr (x, refl, refl, cc)
change_at f zero (x ∷ xs) (suc i) y e = inl e
change_at f (suc o) (x ∷ xs) zero y e = inl e
change_at f (suc o) (x ∷ xs) (suc i) y e = elim (change_at f o xs i y e) [ inl h ↦ inl h | inr h ↦ inr (h.0, ap suc h.1, h.2, h.3) ]

pub change_cells : (f : Object → Object) (k o : ℕ) (xs : List Object) → ((x : Object) → slice_get xs o ≡ Some x → cells_of (f x) ≤ cells_of x + k) → all_cells (change f o xs) ≤ all_cells xs + k
change_cells f k o [] h = omega arith
change_cells f k zero (x ∷ xs) h = let a = h x refl in omega (arith, a)
change_cells f k (suc o) (x ∷ xs) h = let a = change_cells f k o xs h in omega (arith, a)

pub change_long : (f : Object → Object) (o : ℕ) (xs : List Object) → length (change f o xs) ≡ length xs
change_long f o [] = refl
change_long f zero (x ∷ xs) = refl
change_long f (suc o) (x ∷ xs) = ap suc (change_long f o xs)

-- an object that is there
pub there : (xs : List Object) (o : ℕ) → o < length xs → slice_get xs o ≡ Some (object_at xs o)
there [] o h = absurd (omega arith)
there (x ∷ xs) zero h = refl
there (x ∷ xs) (suc o) h = there xs o (omega (arith, h))

pub inside : {X : Type 0} (xs : List X) (i : ℕ) (x : X) → slice_get xs i ≡ Some x → i < length xs
inside [] i x e = absurd cc
inside (y ∷ xs) zero x e = omega arith
inside (y ∷ xs) (suc i) x e = let r = inside xs i x e in omega (arith, r)

-- the two ways to say that something is so of each element
pub each_at : {X : Type 0} (P : X → Type 0) (xs : List X) → Each P xs → EachAt P xs
each_at P [] h k x e = absurd cc
each_at P (y ∷ xs) h zero x e = let q : y ≡ x = cc in subst P q h.0
each_at P (y ∷ xs) h (suc k) x e = each_at P xs h.1 k x e

pub each2_put : {X Y : Type 0} (R : X → Y → Type 0) (xs : List X) (ys : List Y) (n : ℕ) (x : X) (y : Y) → Each2 R xs ys → slice_get xs n ≡ Some x → R x y → Each2 R xs (set ys n y)
each2_put R [] ys n x y e q r = absurd cc
each2_put R (a ∷ xs) [] n x y e q r = absurd e
each2_put R (a ∷ xs) (b ∷ ys) zero x y e q r = let z : x ≡ a = cc in (subst (λ i. R i y) z r, e.1)
each2_put R (a ∷ xs) (b ∷ ys) (suc n) x y e q r = (e.0, each2_put R xs ys n x y e.1 q r)

pub each2_some : {X Y : Type 0} (R : X → Y → Type 0) (xs : List X) (ys : List Y) (n : ℕ) (x : X) → Each2 R xs ys → slice_get xs n ≡ Some x → (y : Y) × (slice_get ys n ≡ Some y) × R x y
each2_some R [] ys n x e q = absurd cc
each2_some R (a ∷ xs) [] n x e q = absurd e
each2_some R (a ∷ xs) (b ∷ ys) zero x e q = let z : a ≡ x = cc in (b, refl, subst (λ i. R i b) z e.0)
each2_some R (a ∷ xs) (b ∷ ys) (suc n) x e q = each2_some R xs ys n x e.1 q

pub each_drop : {X : Type 0} (P : X → Type 0) (k : ℕ) (xs : List X) → Each P xs → Each P (drop k xs)
each_drop P zero xs h = h
each_drop P (suc k) [] h = tt
each_drop P (suc k) (x ∷ xs) h = each_drop P k xs h.1
