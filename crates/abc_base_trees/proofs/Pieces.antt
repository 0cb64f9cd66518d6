-- Places are parted by the bounds of ranges: which lie before which.
use Rattle.std.proofs.Common.{◌≡◌, ℕ, zero, suc, ◌+◌, ◌*◌, ◌≤◌, ◌<◌, List, [], ◌∷◌, ◌++◌, Some, length, get_or, refl, sym, ap, ◌∙◌, subst, arith, inl, inr, length-append}
use Rattle.std.specs.Prelude.{Bool, cond, slice_get}
use Rattle.std.specs.List.{Contains}
use Rattle.std.proofs.lemmas.Bool.{cases_lt, le-leb, lt-leb}
use Rattle.std.proofs.lemmas.List.Elements.{Contains-append_left, Contains-push}
use Rattle.std.proofs.lemmas.List.Sorted.{Contains-permutation}
use Rattle.std.proofs.lemmas.Option.{get_or_from_slice_get, slice_get_within}
use Rattle.std.specs.List.Sorted.{IsPermutation}
use Rattle.abc_base_trees.specs.Pieces.{AreBounds, piece}
use Rattle.abc_base_trees.specs.declared.hang.Range.{Range}

here : (b x : ℕ) (bs : List ℕ) → b ≤ x → piece (b ∷ bs) x ≡ suc (piece bs x)
here b x bs h = ap (λ (t : Bool). cond t (suc (piece bs x)) (piece bs x)) (le-leb b x h)

past : (b x : ℕ) (bs : List ℕ) → x < b → piece (b ∷ bs) x ≡ piece bs x
past b x bs h = ap (λ (t : Bool). cond t (suc (piece bs x)) (piece bs x)) (lt-leb b x h)

pub piece_few : (bs : List ℕ) (x : ℕ) → piece bs x ≤ length bs
piece_few [] x = omega arith
piece_few (b ∷ bs) x = let r = piece_few bs x in elim (cases_lt x b) [ inl lt ↦ (let e = past b x bs lt in omega arith) | inr le ↦ (let e = here b x bs le in omega arith) ]

pub piece_up : (bs : List ℕ) (x y : ℕ) → x ≤ y → piece bs x ≤ piece bs y
piece_up [] x y h = omega arith
piece_up (b ∷ bs) x y h =
    let r = piece_up bs x y h in
    elim (cases_lt x b) [
      | inl lt ↦ (let e = past b x bs lt in elim (cases_lt y b) [ inl lu ↦ (let f = past b y bs lu in omega arith) | inr le ↦ (let f = here b y bs le in omega arith) ])
      | inr le ↦ (let e = here b x bs le in let f = here b y bs (omega arith) in omega arith)
    ]

-- a place before a bound lies in an earlier piece
over_at : (bs : List ℕ) (x y k : ℕ) → x < y → k < length bs → get_or bs k y ≡ y → piece bs x < piece bs y
over_at [] x y k h lt e = absurd (omega arith)
over_at (b ∷ bs) x y zero h lt e = let f = past b x bs (omega arith) in let g = here b y bs (omega arith) in let r = piece_up bs x y (omega arith) in omega arith
over_at (b ∷ bs) x y (suc k) h lt e =
    let r = over_at bs x y k h (omega arith) e in
    elim (cases_lt x b) [
      | inl lu ↦ (let f = past b x bs lu in elim (cases_lt y b) [ inl lv ↦ (let g = past b y bs lv in omega arith) | inr le ↦ (let g = here b y bs le in omega arith) ])
      | inr le ↦ (let f = here b x bs le in let g = here b y bs (omega arith) in omega arith)
    ]

pub piece_over : (bs : List ℕ) (x y : ℕ) → x < y → Contains bs y → piece bs x < piece bs y
piece_over bs x y h c = over_at bs x y c.0 h c.1 c.2

-- the piece of a place is what a search finds
pub piece_point : (bs : List ℕ) (x i : ℕ) → i ≤ length bs → ((k d : ℕ) → k < i → get_or bs k d ≤ x) → ((k d : ℕ) → i ≤ k → k < length bs → x < get_or bs k d) → i ≡ piece bs x
piece_point [] x i le low high = omega arith
piece_point (b ∷ bs) x zero le low high =
    let e = past b x bs (high 0 0 (omega arith) (omega arith)) in
    let r = piece_point bs x 0 (omega arith) (λ k d h. absurd (omega arith)) (λ k d h g. high (suc k) d (omega arith) (omega arith)) in
    omega arith
piece_point (b ∷ bs) x (suc i) le low high =
    let e = here b x bs (low 0 0 (omega arith)) in
    let r = piece_point bs x i (omega arith) (λ k d h. low (suc k) d (omega arith)) (λ k d h g. high (suc k) d (omega arith) (omega arith)) in
    omega arith

-- ---- the bounds of ranges, one range after the other

-- of the first so many
pub record AreBoundsTo (ranges : List Range) (n : ℕ) (bounds : List ℕ) : Type 0 where
  pub from : (k : ℕ) (r : Range) → k < n → slice_get ranges k ≡ Some r → Contains bounds r.from
  pub to : (k : ℕ) (r : Range) → k < n → slice_get ranges k ≡ Some r → Contains bounds r.to
  pub few : length bounds ≡ 2 * n

pub no_bounds : (ranges : List Range) → AreBoundsTo ranges 0 []
no_bounds ranges = record { from = λ k r h e. absurd (omega arith); to = λ k r h e. absurd (omega arith); few = refl }

more : (bounds : List ℕ) (a b x : ℕ) → Contains bounds x → Contains ((bounds ++ a ∷ []) ++ b ∷ []) x
more bounds a b x c = Contains-append_left (bounds ++ a ∷ []) (b ∷ []) x (Contains-append_left bounds (a ∷ []) x c)

pub more_bounds : (ranges : List Range) (n : ℕ) (bounds : List ℕ) (d : Range) → AreBoundsTo ranges n bounds → AreBoundsTo ranges (n + 1) ((bounds ++ (get_or ranges n d).from ∷ []) ++ (get_or ranges n d).to ∷ [])
more_bounds ranges n bounds d h =
    let a = (get_or ranges n d).from in
    let b = (get_or ranges n d).to in
    record {
      from = λ k r lt e. elim (cases_lt k n) [
        | inl lu ↦ more bounds a b r.from (h.from k r lu e)
        | inr le ↦ (let q : k ≡ n = omega arith in let g : r ≡ get_or ranges n d = sym (get_or_from_slice_get ranges k r d e) ∙ ap (λ (i : ℕ). get_or ranges i d) q in subst (λ (x : Range). Contains ((bounds ++ a ∷ []) ++ b ∷ []) x.from) (sym g) (Contains-append_left (bounds ++ a ∷ []) (b ∷ []) a (Contains-push bounds a)))
      ];
      to = λ k r lt e. elim (cases_lt k n) [
        | inl lu ↦ more bounds a b r.to (h.to k r lu e)
        | inr le ↦ (let q : k ≡ n = omega arith in let g : r ≡ get_or ranges n d = sym (get_or_from_slice_get ranges k r d e) ∙ ap (λ (i : ℕ). get_or ranges i d) q in subst (λ (x : Range). Contains ((bounds ++ a ∷ []) ++ b ∷ []) x.to) (sym g) (Contains-push (bounds ++ a ∷ []) b))
      ];
      few = let f = h.few in let e = length-append (bounds ++ a ∷ []) (b ∷ []) in let g = length-append bounds (a ∷ []) in omega arith;
    }

pub all_bounds : (ranges : List Range) (n : ℕ) (bounds : List ℕ) → n ≡ length ranges → AreBoundsTo ranges n bounds → AreBounds ranges bounds
all_bounds ranges n bounds q h = record { from = λ k r e. h.from k r (let z = slice_get_within ranges k r e in omega arith) e; to = λ k r e. h.to k r (let z = slice_get_within ranges k r e in omega arith) e }

pub moved_bounds : (ranges : List Range) (bounds others : List ℕ) → IsPermutation bounds others → AreBounds ranges bounds → AreBounds ranges others
moved_bounds ranges bounds others p h = record { from = λ k r e. Contains-permutation bounds others r.from p (h.from k r e); to = λ k r e. Contains-permutation bounds others r.to p (h.to k r e) }
