-- Nodes whose bases follow no cycle have an order.
use Rattle.std.proofs.Common.{◌≡◌, ℕ, zero, suc, ◌+◌, ◌<◌, ◌≤◌, ◌⊎◌, inl, inr, List, [], ◌∷◌, ◌++◌, Some, None, length, replicate, refl, sym, subst, append_assoc, arith}
use Rattle.std.proofs.Math.ListN.{set}
use Rattle.std.specs.declared.option.Option.{Option}
use Rattle.std.proofs.lemmas.Bool.{cases_lt}
use Rattle.std.proofs.lemmas.List.{append-nil}
use Rattle.abc_base_graphs.specs.Orders.{HasOrderPlace, IsClimb, IsDescent, IsForest, IsNextFree, IsOrder, AreNodesPlaced, IsWayTo, KeepsPlaces, base_in, place_in_order, order_with, settled_below}
use Rattle.abc_base_graphs.proofs.Placing.{climb_begins, climb_ends, climb_next, descent_ends, descent_next, free_none, free_some, keeps_self, keeps_set, keeps_then, none_placed, placed_next, top_free, top_waits, way_fits}
use Rattle.abc_base_graphs.proofs.Settling.{all_settled, stands_not, way_to_ends, way_to_next, way_to_none}

-- the way up from a node, as far as its nodes wait
record HasWay (bases : List (Option ℕ)) (order : List ℕ) (places : List (Option ℕ)) (from : ℕ) : Type 0 where
  way : List ℕ
  descent : IsDescent bases places from way
  settles : order_with (length bases) bases order from ≡ order ++ way

-- places of more nodes, one among them
record HasMore (bases : List (Option ℕ)) (order : List ℕ) (places : List (Option ℕ)) (from : ℕ) : Type 0 where
  more : List (Option ℕ)
  placed : AreNodesPlaced bases order more
  keeps : KeepsPlaces places more
  here : HasOrderPlace more from

-- the nodes below one, in their order
record HasOrder (bases : List (Option ℕ)) (n : ℕ) : Type 0 where
  places : List (Option ℕ)
  placed : AreNodesPlaced bases (settled_below bases n) places
  all : (x : ℕ) → x < n → HasOrderPlace places x

module _ (bases : List (Option ℕ)) (forest : IsForest bases) where
  climbs : (order : List ℕ) (places : List (Option ℕ)) (from k : ℕ) (next : Option ℕ) (way : List ℕ) → AreNodesPlaced bases order places → length bases < length way + k → IsClimb bases places from next way → IsWayTo bases order from next way → HasWay bases order places from
  climbs order places from zero next way s le c w = let h = way_fits bases places way c.waiting in absurd (omega (arith, le, h))
  climbs order places from (suc k) next way s le c w =
      go
      (λ x e none. climbs order places from k (base_in bases x) (x ∷ way) s (omega (arith, le)) (climb_next bases places from x next way forest c e none) (way_to_next bases order from x next way w e (stands_not bases order places x s none)))
      next refl
    where
      ends : IsNextFree places next → HasWay bases order places from
      ends free = record { way = way; descent = climb_ends bases places from next way c free; settles = way_to_ends bases order places from next way w s free (way_fits bases places way c.waiting) }

      at : ((x : ℕ) → next ≡ Some x → place_in_order places x ≡ None → HasWay bases order places from) → (x : ℕ) → next ≡ Some x → (o : Option ℕ) → place_in_order places x ≡ o → HasWay bases order places from
      at further x e None is = further x e is
      at further x e (Some p) is = ends (subst (IsNextFree places) (sym e) (free_some places x p is))

      go : ((x : ℕ) → next ≡ Some x → place_in_order places x ≡ None → HasWay bases order places from) → (o : Option ℕ) → next ≡ o → HasWay bases order places from
      go further None e = ends (subst (IsNextFree places) (sym e) (free_none places))
      go further (Some x) e = at further x e (place_in_order places x) refl

  descends : (from : ℕ) (way order : List ℕ) (places : List (Option ℕ)) → AreNodesPlaced bases order places → IsDescent bases places from way → HasMore bases (order ++ way) places from
  descends from [] order places s d = record { more = places; placed = subst (λ (o : List ℕ). AreNodesPlaced bases o places) (sym (append-nil order)) s; keeps = keeps_self places; here = descent_ends bases places from d }
  descends from (x ∷ way) order places s d =
      let waits = top_waits bases places from x way d in
      let after : List (Option ℕ) = set places x (Some (length order)) in
      let rest = descends from way (order ++ x ∷ []) after (placed_next bases order places x s waits.1 waits.0 (top_free bases places from x way d)) (descent_next bases places from x (length order) way s.len d) in
      record {
        more = rest.more;
        placed = subst (λ (o : List ℕ). AreNodesPlaced bases o rest.more) (append_assoc order (x ∷ []) way) rest.placed;
        keeps = keeps_then places after rest.more (keeps_set places x (length order) waits.0) rest.keeps;
        here = rest.here;
      }

  turns : (n : ℕ) → n ≤ length bases → HasOrder bases n
  turns zero le = record { places = replicate (length bases) None; placed = none_placed bases; all = λ x lt. absurd (omega arith) }
  turns (suc n) le =
      let before = turns n (omega (arith, le)) in
      let order : List ℕ = settled_below bases n in
      let up = climbs order before.places n (suc (length bases)) (Some n) [] before.placed (omega arith) (climb_begins bases before.places n (omega (arith, le))) (way_to_none bases order n) in
      let down = descends n up.way order before.places before.placed up.descent in
      record {
        places = down.more;
        placed = subst (λ (o : List ℕ). AreNodesPlaced bases o down.more) (sym up.settles) down.placed;
        all = λ x lt. all before.places down.more before.all down.keeps down.here x (cases x lt);
      }
    where
      cases : (x : ℕ) → x < suc n → (x < n) ⊎ (n ≡ x)
      cases x lt = elim (cases_lt x n) [ inl l ↦ inl l | inr ge ↦ inr (omega (arith, lt, ge)) ]

      all : (old new : List (Option ℕ)) → ((x : ℕ) → x < n → HasOrderPlace old x) → KeepsPlaces old new → HasOrderPlace new n → (x : ℕ) → (x < n) ⊎ (n ≡ x) → HasOrderPlace new x
      all old new below keeps here x (inl l) = keeps.keeps x (below x l)
      all old new below keeps here x (inr e) = subst (HasOrderPlace new) e here

  -- the places of the one order
  pub some_order : (places : List (Option ℕ)) × IsOrder bases (settled_below bases (length bases)) places
  some_order = let whole = turns (length bases) (omega arith) in (whole.places, all_settled bases (settled_below bases (length bases)) whole.places (length bases) whole.placed whole.all refl refl)
