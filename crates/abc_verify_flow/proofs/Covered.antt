-- The handlers that cover a place hang above it.
use Rattle.std.proofs.Common.{◌≡◌, ℕ, zero, suc, ◌≤◌, ◌<◌, List, [], ◌∷◌, ◌⊎◌, Some, refl, sym, ap, ◌∙◌, subst, inl, inr}
use Rattle.std.specs.Prelude.{Bool, true, false, cond, not, map, filter, slice_get, leb, ltb, ◌&&◌}
use Rattle.std.proofs.lemmas.Bool.{cases_Bool, le-leb, leb-true, lt-ltb, ltb-true}
use Rattle.abc_base_trees.specs.Hung.{AreHung, Covers, IsStabFree, IsStabTaken, leaf, levels_above}
use Rattle.abc_base_trees.specs.declared.hang.Range.{Range}
use Rattle.abc_base_trees.specs.declared.stabs.Stabs.{Stabs}
use Rattle.abc_verify_typing.specs.Effects.{covers}
use Rattle.abc_verify_typing.specs.Rules.{all_below, handler_target, is_without_catches}
use Rattle.abc_verify_typing.specs.Typing.{In}
use Rattle.abc_verify_typing.specs.declared.catch.Catch.{Catch}
use Rattle.abc_verify_typing.proofs.Member.{and_both, and_left, and_right}
use Rattle.abc_verify_flow.specs.Handled.{IsCover}
use Rattle.abc_verify_flow.specs.Telling.{HandlerAt, IsHandled, leads_beyond, range_of}
use Rattle.abc_verify_flow.specs.declared.handled.Cover.{Cover}
use Rattle.abc_verify_flow.specs.declared.handled.Handled.{Handled}

-- ---- what a filter keeps

pub in_filter : (f : Catch → Bool) (h : Catch) (hs : List Catch) → In h (filter f hs) → In h hs × (f h ≡ true)
in_filter f h [] k = absurd k
in_filter f h (x ∷ hs) k = go (λ j. in_filter f h hs j) (f x) refl k
  where
    go : (In h (filter f hs) → In h hs × (f h ≡ true)) → (b : Bool) → f x ≡ b → In h (cond b (x ∷ filter f hs) (filter f hs)) → In h (x ∷ hs) × (f h ≡ true)
    go rec true e (inl q) = (inl q, ap f q ∙ e)
    go rec true e (inr j) = let r = rec j in (inr r.0, r.1)
    go rec false e j = let r = rec j in (inr r.0, r.1)

filter_in : (f : Catch → Bool) (h : Catch) (hs : List Catch) → In h hs → f h ≡ true → In h (filter f hs)
filter_in f h [] k t = absurd k
filter_in f h (x ∷ hs) (inl q) t = subst (λ (b : Bool). In h (cond b (x ∷ filter f hs) (filter f hs))) (sym t ∙ ap f q) (inl q)
filter_in f h (x ∷ hs) (inr k) t = go (filter_in f h hs k t) (f x)
  where
    go : In h (filter f hs) → (b : Bool) → In h (cond b (x ∷ filter f hs) (filter f hs))
    go rec true = inr rec
    go rec false = rec

at_in : (hs : List Catch) (k : ℕ) (h : Catch) → slice_get hs k ≡ Some h → In h hs
at_in [] k h e = absurd cc
at_in (x ∷ hs) zero h e = let q : x ≡ h = cc in inl (sym q)
at_in (x ∷ hs) (suc k) h e = inr (at_in hs k h e)

in_at : (hs : List Catch) (h : Catch) → In h hs → (k : ℕ) × (slice_get hs k ≡ Some h)
in_at [] h i = absurd i
in_at (x ∷ hs) h (inl q) = (0, ap (λ (y : Catch). Some y) (sym q))
in_at (x ∷ hs) h (inr i) = let r = in_at hs h i in (suc r.0, r.1)

-- ---- as ranges

range_at : (hs : List Catch) (k : ℕ) (h : Catch) → slice_get hs k ≡ Some h → slice_get (map range_of hs) k ≡ Some (range_of h)
range_at [] k h e = absurd cc
range_at (x ∷ hs) zero h e = let q : x ≡ h = cc in ap (λ (y : Catch). Some (range_of y)) q
range_at (x ∷ hs) (suc k) h e = range_at hs k h e

at_range : (hs : List Catch) (k : ℕ) (r : Range) → slice_get (map range_of hs) k ≡ Some r → (h : Catch) × (slice_get hs k ≡ Some h) × (r ≡ range_of h)
at_range [] k r e = absurd cc
at_range (x ∷ hs) zero r e = (x, refl, (let q : range_of x ≡ r = cc in sym q))
at_range (x ∷ hs) (suc k) r e = at_range hs k r e

covered_at : (hs : List Catch) (k x : ℕ) → Covers (map range_of hs) k x → (h : Catch) × (slice_get hs k ≡ Some h) × In h (filter (covers x) hs)
covered_at hs k x c =
    let a = at_range hs k c.0 c.1 in
    let low : a.0.from ≤ x = subst (λ (r : Range). r.from ≤ x) a.2 c.2 in
    let high : x < a.0.to = subst (λ (r : Range). x < r.to) a.2 c.3 in
    (a.0, a.1, filter_in (covers x) a.0 hs (at_in hs k a.0 a.1) (and_both (leb a.0.from x) (ltb x a.0.to) (le-leb a.0.from x low) (lt-ltb x a.0.to high)))

covers_at : (hs : List Catch) (x : ℕ) (h : Catch) → In h (filter (covers x) hs) → (k : ℕ) × (slice_get hs k ≡ Some h) × Covers (map range_of hs) k x
covers_at hs x h i =
    let f = in_filter (covers x) h hs i in
    let a = in_at hs h f.0 in
    let low = leb-true h.from x (and_left (leb h.from x) (ltb x h.to) f.1) in
    let high = ltb-true x h.to (and_right (leb h.from x) (ltb x h.to) f.1) in
    (a.0, a.1, (range_of h, range_at hs a.0 h a.1, low, high))

-- what hangs above a place covers it
pub hung_covers : (hs : List Catch) (t : Stabs) (j x : ℕ) (h : Catch) → AreHung (map range_of hs) t → HandlerAt t hs (levels_above j (leaf t x)) h → In h (filter (covers x) hs)
hung_covers hs t j x h a g =
    let c = covered_at hs g.number x (a.only j g.number x g.hangs) in
    let q : c.0 ≡ h = (let e : Some c.0 ≡ Some h = sym c.1 ∙ g.is in cc) in
    subst (λ (y : Catch). In y (filter (covers x) hs)) q c.2

-- what covers a place hangs above it
pub covers_hung : (hs : List Catch) (t : Stabs) (x : ℕ) (h : Catch) → AreHung (map range_of hs) t → In h (filter (covers x) hs) → (j : ℕ) × HandlerAt t hs (levels_above j (leaf t x)) h
covers_hung hs t x h a i = let c = covers_at hs x h i in let e = a.every c.0 x c.2 in (e.0, record { number = c.0; hangs = e.1; is = c.1 })

-- ---- what the rules ask

none_free : (hs : List Catch) (t : Stabs) (x : ℕ) (h : Catch) → AreHung (map range_of hs) t → IsStabFree t x → In h (filter (covers x) hs) → ⊥
none_free hs t x h a free i = let c = covers_hung hs t x h a i in free c.0 c.1.number c.1.hangs

some_taken : (hs : List Catch) (t : Stabs) (x : ℕ) → AreHung (map range_of hs) t → IsStabTaken t x → (h : Catch) × In h (filter (covers x) hs)
some_taken hs t x a taken = let c = covered_at hs taken.1.0 x (a.only taken.0 taken.1.0 x taken.1.1) in (c.0, c.2)

empty_if : (hs : List Catch) → ((h : Catch) → In h hs → ⊥) → is_without_catches hs ≡ true
empty_if [] none = refl
empty_if (x ∷ hs) none = absurd (none x (inl refl))

pub empty_not : (hs : List Catch) (h : Catch) → In h hs → is_without_catches hs ≡ false
empty_not [] h i = absurd i
empty_not (x ∷ hs) h i = refl

below_if : (hs : List Catch) (end : ℕ) → ((h : Catch) → In h hs → ltb h.target end ≡ true) → all_below (map handler_target hs) end ≡ true
below_if [] end all = refl
below_if (x ∷ hs) end all = and_both (ltb x.target end) (all_below (map handler_target hs) end) (all x (inl refl)) (below_if hs end (λ h i. all h (inr i)))

below_not : (hs : List Catch) (end : ℕ) (h : Catch) → In h hs → ltb h.target end ≡ false → all_below (map handler_target hs) end ≡ false
below_not [] end h i e = absurd i
below_not (x ∷ hs) end h (inl q) e = ap (λ (b : Bool). b && all_below (map handler_target hs) end) (ap (λ (y : Catch). ltb y.target end) (sym q) ∙ e)
below_not (x ∷ hs) end h (inr i) e = ap (λ (b : Bool). ltb x.target end && b) (below_not hs end h i e) ∙ off (ltb x.target end)
  where
    off : (b : Bool) → (b && false) ≡ false
    off true = refl
    off false = refl

not_back : (b : Bool) → not b ≡ true → b ≡ false
not_back true e = absurd cc
not_back false e = refl

pub cover_is : (hs : List Catch) (end x : ℕ) (h : Handled) (c : Cover) → IsHandled hs end h → (c.is_empty ≡ true → IsStabFree h.all x) → (c.is_empty ≡ false → IsStabTaken h.all x) → (c.is_inside ≡ true → IsStabFree h.beyond x) → (c.is_inside ≡ false → IsStabTaken h.beyond x) → IsCover (filter (covers x) hs) end c
cover_is hs end x h c a free taken inner outer = record { none = none (cases_Bool c.is_empty); inside = inside (cases_Bool c.is_inside) }
  where
    none : (c.is_empty ≡ true) ⊎ (c.is_empty ≡ false) → c.is_empty ≡ is_without_catches (filter (covers x) hs)
    none (inl on) = on ∙ sym (empty_if (filter (covers x) hs) (λ g i. none_free hs h.all x g a.all (free on) i))
    none (inr off) = off ∙ sym (let s = some_taken hs h.all x a.all (taken off) in empty_not (filter (covers x) hs) s.0 s.1)

    -- one that leads beyond is among those that do
    beyond : (g : Catch) → In g (filter (covers x) hs) → ltb g.target end ≡ false → In g (filter (covers x) (filter (leads_beyond end) hs))
    beyond g i e =
        let f = in_filter (covers x) g hs i in
        filter_in (covers x) g (filter (leads_beyond end) hs) (filter_in (leads_beyond end) g hs f.0 (ap not e)) f.1

    inside : (c.is_inside ≡ true) ⊎ (c.is_inside ≡ false) → c.is_inside ≡ all_below (map handler_target (filter (covers x) hs)) end
    inside (inl on) = on ∙ sym (below_if (filter (covers x) hs) end (λ g i. elim (cases_Bool (ltb g.target end)) [ inl e ↦ e | inr e ↦ absurd (none_free (filter (leads_beyond end) hs) h.beyond x g a.beyond (inner on) (beyond g i e)) ]))
    inside (inr off) =
        let s = some_taken (filter (leads_beyond end) hs) h.beyond x a.beyond (outer off) in
        let f = in_filter (covers x) s.0 (filter (leads_beyond end) hs) s.1 in
        let g = in_filter (leads_beyond end) s.0 hs f.0 in
        off ∙ sym (below_not (filter (covers x) hs) end s.0 (filter_in (covers x) s.0 hs g.0 f.1) (not_back (ltb s.0.target end) g.1))
