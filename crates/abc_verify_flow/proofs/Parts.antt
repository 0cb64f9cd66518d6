-- Lists that are read, mapped and cut.
use Rattle.std.proofs.Common.{◌≡◌, ◌≢◌, ℕ, zero, suc, ◌+◌, ◌≤◌, ◌<◌, List, [], ◌∷◌, ◌++◌, Some, length, set, map, take, drop, refl, sym, ap, ◌∙◌, arith, ◌⊎◌, inl, inr, length-append}
use Rattle.std.specs.Prelude.{Err, Ok, OnErr, Result, slice_get}
use Rattle.std.proofs.lemmas.List.{append-nil, drop-append-le, drop_at, length-drop, length-take-le, take-append-drop, take-append-le, take_all, take_at}
use Rattle.std.proofs.lemmas.Slice.{drop-put_mid}
use Rattle.abc_verify_flow.specs.Kept.{IsLonger, IsSpan, over, part}
use Rattle.abc_verify_flow.specs.declared.span.Span.{Span}

-- ---- lists

pub got_inside : {X : Type 0} (xs : List X) (i : ℕ) (x : X) → slice_get xs i ≡ Some x → i < length xs
got_inside [] i x e = absurd cc
got_inside (y ∷ xs) zero x e = omega arith
got_inside (y ∷ xs) (suc i) x e = let lt = got_inside xs i x e in omega arith

pub got_map : {X Y : Type 0} (f : X → Y) (xs : List X) (i : ℕ) (x : X) → slice_get xs i ≡ Some x → slice_get (map f xs) i ≡ Some (f x)
got_map f [] i x e = absurd cc
got_map {X} f (y ∷ xs) zero x e = let q : y ≡ x = cc in ap (λ (z : X). Some (f z)) q
got_map f (y ∷ xs) (suc i) x e = got_map f xs i x e

-- a value of a list, or the one behind it
pub got_last : {X : Type 0} (xs : List X) (x : X) (i : ℕ) (y : X) → slice_get (xs ++ x ∷ []) i ≡ Some y → (slice_get xs i ≡ Some y) ⊎ ((i ≡ length xs) × (x ≡ y))
got_last [] x zero y e = inr (refl, cc)
got_last [] x (suc i) y e = absurd cc
got_last (z ∷ xs) x zero y e = inl e
got_last (z ∷ xs) x (suc i) y e = elim (got_last xs x i y e) [ inl a ↦ inl a | inr a ↦ inr (ap suc a.0, a.1) ]

pub map_same : {X Y : Type 0} (f g : X → Y) (xs : List X) → ((i : ℕ) (x : X) → slice_get xs i ≡ Some x → f x ≡ g x) → map f xs ≡ map g xs
map_same f g [] h = refl
map_same {X} {Y} f g (x ∷ xs) h = ap (λ (y : Y). y ∷ map f xs) (h 0 x refl) ∙ ap (λ (ys : List Y). g x ∷ ys) (map_same f g xs (λ i y e. h (suc i) y e))

pub map_but : {X Y : Type 0} (f g : X → Y) (xs : List X) (i : ℕ) (y : Y) → i < length xs → ((x : X) → slice_get xs i ≡ Some x → g x ≡ y) → ((j : ℕ) (x : X) → j ≢ i → slice_get xs j ≡ Some x → g x ≡ f x) → map g xs ≡ set (map f xs) i y
map_but f g [] i y lt h k = absurd (omega arith)
map_but {X} {Y} f g (x ∷ xs) zero y lt h k = ap (λ (z : Y). z ∷ map g xs) (h x refl) ∙ ap (λ (ys : List Y). y ∷ ys) (map_same g f xs (λ j z e. k (suc j) z (λ q. omega arith) e))
map_but {X} {Y} f g (x ∷ xs) (suc i) y lt h k = ap (λ (z : Y). z ∷ map g xs) (k 0 x (λ q. omega arith) refl) ∙ ap (λ (ys : List Y). f x ∷ ys) (map_but f g xs i y (omega arith) h (λ j z ne e. k (suc j) z (λ q. ne (omega arith)) e))

-- what holds, holds at an error
pub on_err : {A E : Type 0} (r : Result A E) (P : Type 0) → P → OnErr r P
on_err (Ok a) P p = tt
on_err (Err e) P p = p

-- ---- parts of a list

pub part_more : {X : Type 0} (s : Span) (xs ys : List X) → s.first + s.count ≤ length xs → part s (xs ++ ys) ≡ part s xs
part_more s xs ys h =
    ap (take s.count) (drop-append-le s.first xs ys (omega (arith, h)))
    ∙ take-append-le s.count (drop s.first xs) ys (let e = length-drop s.first xs in omega (arith, e, h))

pub part_longer : {X : Type 0} (s : Span) (xs ys : List X) → IsLonger xs ys → s.first + s.count ≤ length xs → part s ys ≡ part s xs
part_longer s xs ys r h = ap (part s) r.1 ∙ part_more s xs r.0 h

pub part_last : {X : Type 0} (s : Span) (xs ys zs : List X) → IsSpan (length xs) (length ys) s → zs ≡ xs ++ ys → part s zs ≡ ys
part_last s xs ys zs h e =
    ap (part s) e
    ∙ ap (take s.count) (drop_at xs ys s.first (sym h.first))
    ∙ take_all s.count ys (let q = h.count in omega (arith, q))

pub longer_self : {X : Type 0} (xs : List X) → IsLonger xs xs
longer_self xs = ([], sym (append-nil xs))

pub longer_length : {X : Type 0} (xs ys : List X) → IsLonger xs ys → length xs ≤ length ys
longer_length xs ys r = let e : length ys ≡ length (xs ++ r.0) = ap (λ zs. length zs) r.1 in let f = length-append xs r.0 in omega (arith, e, f)

pub added_length : {X : Type 0} (xs ys zs : List X) → zs ≡ xs ++ ys → length zs ≡ length xs + length ys
added_length xs ys zs r = let e : length zs ≡ length (xs ++ ys) = ap (λ us. length us) r in let f = length-append xs ys in omega (arith, e, f)

pub over_length : {X : Type 0} (s : Span) (xs ys zs : List X) → zs ≡ over s xs ys → s.first + s.count ≤ length xs → length ys ≡ s.count → length zs ≡ length xs
over_length s xs ys zs is h e =
    let z : length zs ≡ length (over s xs ys) = ap (λ us. length us) is in
    let a = length-append (take s.first xs) (ys ++ drop s.count (drop s.first xs)) in
    let b = length-append ys (drop s.count (drop s.first xs)) in
    let c = length-take-le s.first xs (omega (arith, h)) in
    let d = length-drop s.count (drop s.first xs) in
    let f = length-drop s.first xs in
    omega (arith, h, e, z, a, b, c, d, f)

pub part_put : {X : Type 0} (s : Span) (xs ys zs : List X) → zs ≡ over s xs ys → s.first + s.count ≤ length xs → length ys ≡ s.count → part s zs ≡ ys
part_put s xs ys zs is h e =
    ap (part s) is
    ∙ ap (take s.count) (drop_at (take s.first xs) (ys ++ drop s.count (drop s.first xs)) s.first (length-take-le s.first xs (omega (arith, h))))
    ∙ take_at ys (drop s.count (drop s.first xs)) s.count e

pub part_before : {X : Type 0} (s t : Span) (xs ys : List X) → t.first + t.count ≤ s.first → s.first ≤ length xs → part t (over s xs ys) ≡ part t xs
part_before s t xs ys h le =
    let c = length-take-le s.first xs le in
    let in' : t.first + t.count ≤ length (take s.first xs) = omega (arith, c, h) in
    part_more t (take s.first xs) (ys ++ drop s.count (drop s.first xs)) in'
    ∙ sym (part_more t (take s.first xs) (drop s.first xs) in')
    ∙ ap (part t) (take-append-drop s.first xs)

pub part_behind : {X : Type 0} (s t : Span) (xs ys : List X) → s.first + s.count ≤ t.first → s.first ≤ length xs → length ys ≡ s.count → part t (over s xs ys) ≡ part t xs
part_behind s t xs ys h le e = ap (take t.count) (drop-put_mid s.first s.count xs ys t.first h le e)

pub set_same : {X : Type 0} (xs : List X) (i : ℕ) (x : X) → slice_get xs i ≡ Some x → set xs i x ≡ xs
set_same [] i x e = refl
set_same {X} (y ∷ xs) zero x e = let z : y ≡ x = cc in ap (λ (w : X). w ∷ xs) (sym z)
set_same {X} (y ∷ xs) (suc i) x e = ap (λ (zs : List X). y ∷ zs) (set_same xs i x e)
