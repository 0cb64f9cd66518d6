-- Nodes are settled by going up from them and down again.
use Rattle.std.proofs.Common.{◌≡◌, ℕ, zero, suc, ◌+◌, ◌-◌, ◌<◌, ◌≤◌, List, [], ◌∷◌, ◌++◌, Some, None, Bool, true, false, if◌then◌else◌, nat_eq, eq-eqb, length, get_or, refl, sym, ap, ◌∙◌, arith, append_assoc}
use Rattle.std.specs.declared.option.Option.{Option}
use Rattle.std.proofs.lemmas.Bool.{ne_eqb}
use Rattle.std.proofs.lemmas.List.{append-nil, get_or_default}
use Rattle.std.proofs.lemmas.List.Folds.{list_any_at, list_any_none}
use Rattle.abc_base_graphs.specs.Orders.{base_in, place_in_order, order_with, settled_below, stands_in, with_base, order_of_all, HasOrderPlace, IsNextFree, IsOrder, AreNodesPlaced, IsWayTo}

-- what has a place stands in the order, and nothing else
pub stands_placed : (bases : List (Option ℕ)) (order : List ℕ) (places : List (Option ℕ)) (x p : ℕ) → AreNodesPlaced bases order places → place_in_order places x ≡ Some p → stands_in order x ≡ true
stands_placed bases order places x p s e = let t = s.there x p e in list_any_at (nat_eq x) order p 0 t.0 (eq-eqb x (get_or order p 0) (sym t.1))

pub stands_not : (bases : List (Option ℕ)) (order : List ℕ) (places : List (Option ℕ)) (x : ℕ) → AreNodesPlaced bases order places → place_in_order places x ≡ None → stands_in order x ≡ false
stands_not bases order places x s none = list_any_none (nat_eq x) order (λ k d lt. ne_eqb x (get_or order k d) (differs k d lt))
  where
    differs : (k d : ℕ) → k < length order → x ≡ get_or order k d → ⊥
    differs k d lt e =
        let f : place_in_order places x ≡ place_in_order places (get_or order k 0) = ap (place_in_order places) (e ∙ get_or_default order k d 0 lt) in
        let g = s.back k lt in
        cc

-- ---- the way up

pub way_to_none : (bases : List (Option ℕ)) (order : List ℕ) (from : ℕ) → IsWayTo bases order from (Some from) []
way_to_none bases order from = record { settles = λ fuel. let e : 0 + fuel ≡ fuel = omega arith in ap (λ n. order_with n bases order from) e ∙ sym (append-nil (order_with fuel bases order from)) }

pub way_to_next : (bases : List (Option ℕ)) (order : List ℕ) (from x : ℕ) (next : Option ℕ) (way : List ℕ) → IsWayTo bases order from next way → next ≡ Some x → stands_in order x ≡ false → IsWayTo bases order from (base_in bases x) (x ∷ way)
way_to_next bases order from x next way w e absent = record { settles = settles }
  where
    settles : (fuel : ℕ) → order_with (length (x ∷ way) + fuel) bases order from ≡ with_base order (order_with fuel bases order) (base_in bases x) ++ x ∷ way
    settles fuel =
        let n : length (x ∷ way) + fuel ≡ length way + suc fuel = omega arith in
        let below = with_base order (order_with fuel bases order) (base_in bases x) in
        ap (λ k. order_with k bases order from) n
        ∙ w.settles (suc fuel)
        ∙ ap (λ o. with_base order (order_with (suc fuel) bases order) o ++ way) e
        ∙ ap (λ (b : Bool). (if b then order else below ++ x ∷ []) ++ way) absent
        ∙ append_assoc below (x ∷ []) way

free_settled : (bases : List (Option ℕ)) (order : List ℕ) (places : List (Option ℕ)) (next : Option ℕ) (fuel : ℕ) → AreNodesPlaced bases order places → IsNextFree places next → with_base order (order_with fuel bases order) next ≡ order
free_settled bases order places None fuel s free = refl
free_settled bases order places (Some b) zero s free = refl
free_settled bases order places (Some b) (suc fuel) s free =
    let h = free.free b refl in
    ap (λ (t : Bool). if t then order else with_base order (order_with fuel bases order) (base_in bases b) ++ b ∷ []) (stands_placed bases order places b h.at s h.is)

pub way_to_ends : (bases : List (Option ℕ)) (order : List ℕ) (places : List (Option ℕ)) (from : ℕ) (next : Option ℕ) (way : List ℕ) → IsWayTo bases order from next way → AreNodesPlaced bases order places → IsNextFree places next → length way ≤ length bases
    → order_with (length bases) bases order from ≡ order ++ way
way_to_ends bases order places from next way w s free le =
    let rest = length bases - length way in
    let e : length bases ≡ length way + rest = omega arith in
    ap (λ n. order_with n bases order from) e ∙ w.settles rest ∙ ap (λ (o : List ℕ). o ++ way) (free_settled bases order places next rest s free)

-- ---- the way down

pub pushed_next : (first order now way old : List ℕ) (x : ℕ) → order ++ old ≡ first → old ≡ x ∷ way → now ≡ order ++ x ∷ [] → now ++ way ≡ first
pushed_next first order now way old x e f g =
    ap (λ (o : List ℕ). o ++ way) g ∙ append_assoc order (x ∷ []) way ∙ ap (λ (o : List ℕ). order ++ o) (sym f) ∙ e

pub pushed_all : (first order way : List ℕ) → order ++ way ≡ first → way ≡ [] → order ≡ first
pushed_all first order way e f = sym (append-nil order) ∙ ap (λ (o : List ℕ). order ++ o) (sym f) ∙ e

-- ---- one node after the other

pub all_settled : (bases : List (Option ℕ)) (order : List ℕ) (places : List (Option ℕ)) (n : ℕ) → AreNodesPlaced bases order places → ((x : ℕ) → x < n → HasOrderPlace places x) → order ≡ settled_below bases n → n ≡ length bases → IsOrder bases order places
unfolding order_of_all
all_settled bases order places n placed all is e = record { placed = placed; all = λ x lt. all x (omega arith); is = is ∙ ap (settled_below bases) e }
