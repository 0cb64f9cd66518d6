-- Nodes get their places, each behind its base.
use Rattle.std.proofs.Common.{◌≡◌, ℕ, zero, suc, ◌-◌, ◌<◌, ◌≤◌, ◌≢◌, ◌⊎◌, inl, inr, List, [], ◌∷◌, ◌++◌, Some, None, Bool, true, false, replicate, nat_eq, eqb-true, eq-eqb, ◌||◌, map, length, get_or, slice_get, Contains, refl, sym, ap, subst, ◌∙◌, arith, length-append, get_or-set_other, get_or-set_same}
use Rattle.std.proofs.Math.ListN.{set, length-set}
use Rattle.std.specs.declared.option.Option.{Option}
use Rattle.std.specs.Option.{option_to_list}
use Rattle.std.specs.List.{IsDistinct, list_any}
use Rattle.std.proofs.lemmas.Bool.{cases_eq, cases_lt, false≢true}
use Rattle.std.proofs.lemmas.List.Elements.{recursion_from_All, All-from_recursion, Contains-get_or}
use Rattle.std.proofs.lemmas.List.{get_or_append_left, get_or_push, get_or_past, get_or-map, get_or-replicate, length-replicate}
use Rattle.std.proofs.lemmas.Map.Keys.{IsDistinct-head, IsDistinct-tail}
use Rattle.std.proofs.lemmas.Map.Steps.{length-le_from_distinct_below}
use Rattle.abc_base_graphs.specs.Graph.{leads_to, Leads, Edge}
use Rattle.abc_base_graphs.specs.Orders.{base_in, place_in_order, IsForest, AreNodesPlaced, HasOrderPlace, KeepsPlaces, IsWay, IsNextFree, IsWayWaiting, IsClimb, IsDescent}
use Rattle.abc_base_graphs.proofs.Searched.{contains_none, leads_on}

pub no_entry : {A : Type 0} (xs : List (Option A)) (i : ℕ) → slice_get xs i ≡ None → None ≡ get_or xs i None
no_entry [] i e = refl
no_entry (x ∷ xs) zero e = cc
no_entry (x ∷ xs) (suc i) e = no_entry xs i e

-- ---- what comes next

pub free_none : (places : List (Option ℕ)) → IsNextFree places None
free_none places = record { free = λ b e. cc }

pub free_some : (places : List (Option ℕ)) (x p : ℕ) → place_in_order places x ≡ Some p → IsNextFree places (Some x)
free_some places x p e = record { free = λ b s. let q : x ≡ b = cc in record { at = p; is = subst (λ n. place_in_order places n ≡ Some p) q e } }

-- ---- nodes with a place

not_placed : (places : List (Option ℕ)) (x y p : ℕ) → place_in_order places x ≡ None → place_in_order places y ≡ Some p → y ≢ x
not_placed places x y p none some e = let f : place_in_order places y ≡ place_in_order places x = ap (place_in_order places) e in cc

pub placed_in_range : (places : List (Option ℕ)) (x p : ℕ) → place_in_order places x ≡ Some p → x < length places
placed_in_range places x p e = go (cases_lt x (length places))
  where
    go : (x < length places) ⊎ (length places ≤ x) → x < length places
    go (inl lt) = lt
    go (inr le) = let f : get_or places x None ≡ None = get_or_past places x None le in cc

pub placed_next : (bases : List (Option ℕ)) (order : List ℕ) (places : List (Option ℕ)) (x : ℕ) → AreNodesPlaced bases order places → x < length bases → place_in_order places x ≡ None → IsNextFree places (base_in bases x) → AreNodesPlaced bases (order ++ x ∷ []) (set places x (Some (length order)))
placed_next bases order places x s lt none free = record {
  len = length-set places x (Some (length order)) ∙ s.len;
  there = λ y p e. there y p e (cases_eq y x);
  back = λ p h. back p h (cases_lt p (length order));
  behind = λ y b p e f. behind y b p e f (cases_eq y x);
}
  where
    within : x < length places
    within = let e = s.len in omega arith

    here : place_in_order (set places x (Some (length order))) x ≡ Some (length order)
    here = get_or-set_same places x (Some (length order)) None within

    other : (y : ℕ) → y ≢ x → place_in_order (set places x (Some (length order))) y ≡ place_in_order places y
    other y ne = get_or-set_other places x y (Some (length order)) None ne

    there : (y p : ℕ) → place_in_order (set places x (Some (length order))) y ≡ Some p → (y ≡ x) ⊎ (y ≡ x → ⊥) → (p < length (order ++ x ∷ [])) × (get_or (order ++ x ∷ []) p 0 ≡ y)
    there y p e (inl q) =
        let f : place_in_order (set places x (Some (length order))) y ≡ Some (length order) = ap (place_in_order (set places x (Some (length order)))) q ∙ here in
        let g : length order ≡ p = cc in
        (omega (arith, length-append order (x ∷ [])), get_or_push order x 0 p g ∙ sym q)
    there y p e (inr ne) =
        let o = s.there y p (sym (other y ne) ∙ e) in
        (let h = o.0 in omega (arith, length-append order (x ∷ [])), get_or_append_left order (x ∷ []) 0 p o.0 ∙ o.1)

    back : (p : ℕ) → p < length (order ++ x ∷ []) → (p < length order) ⊎ (length order ≤ p) → place_in_order (set places x (Some (length order))) (get_or (order ++ x ∷ []) p 0) ≡ Some p
    back p h (inl l) =
        let was = s.back p l in
        let ne = not_placed places x (get_or order p 0) p none was in
        ap (place_in_order (set places x (Some (length order)))) (get_or_append_left order (x ∷ []) 0 p l) ∙ other (get_or order p 0) ne ∙ was
    back p h (inr le) =
        let e : length order ≡ p = omega (arith, length-append order (x ∷ [])) in
        ap (place_in_order (set places x (Some (length order)))) (get_or_push order x 0 p e) ∙ here ∙ ap Some e

    kept : (b q p : ℕ) → place_in_order places b ≡ Some q → q < p → (r : ℕ) × (place_in_order (set places x (Some (length order))) b ≡ Some r) × (r < p)
    kept b q p was less = (q, other b (not_placed places x b q none was) ∙ was, less)

    behind : (y b p : ℕ) → place_in_order (set places x (Some (length order))) y ≡ Some p → base_in bases y ≡ Some b → (y ≡ x) ⊎ (y ≡ x → ⊥) → (r : ℕ) × (place_in_order (set places x (Some (length order))) b ≡ Some r) × (r < p)
    behind y b p e f (inl q) =
        let at = free.free b (sym (ap (base_in bases) q) ∙ f) in
        let g : place_in_order (set places x (Some (length order))) y ≡ Some (length order) = ap (place_in_order (set places x (Some (length order)))) q ∙ here in
        let h : length order ≡ p = cc in
        kept b at.at p at.is (let o = (s.there b at.at at.is).0 in omega arith)
    behind y b p e f (inr ne) = let o = s.behind y b p (sym (other y ne) ∙ e) f in kept b o.0 p o.1 o.2

-- ---- the way up

contains_cons : (x y : ℕ) (xs : List ℕ) → Contains xs y → Contains (x ∷ xs) y
contains_cons x y xs (k, lt, e) = (suc k, omega arith, e)

contains_head : (x y : ℕ) (xs : List ℕ) → x ≡ y → Contains (x ∷ xs) y
contains_head x y xs e = (zero, omega arith, e)

cons_cases : (x y : ℕ) (xs : List ℕ) → Contains (x ∷ xs) y → (x ≡ y) ⊎ Contains xs y
cons_cases x y xs (zero, lt, e) = inl e
cons_cases x y xs (suc k, lt, e) = inr (k, omega arith, e)

apart_none : IsDistinct nat_eq []
unfolding IsDistinct
apart_none = tt

apart_more : (x : ℕ) (xs : List ℕ) → (Contains xs x → ⊥) → IsDistinct nat_eq xs → IsDistinct nat_eq (x ∷ xs)
unfolding IsDistinct
apart_more x xs ne d = (recursion_from_All (λ y. nat_eq x y ≡ false) xs (λ k e lt. differs k e lt (nat_eq x (get_or xs k e)) refl), d)
  where
    differs : (k e : ℕ) → k < length xs → (b : Bool) → nat_eq x (get_or xs k e) ≡ b → nat_eq x (get_or xs k e) ≡ false
    differs k e lt false is = is
    differs k e lt true is = let q : x ≡ get_or xs k e = eqb-true x (get_or xs k e) is in absurd (ne (subst (Contains xs) (sym q) (Contains-get_or xs k e lt)))

pub waiting_none : (bases places : List (Option ℕ)) → IsWayWaiting bases places []
waiting_none bases places = record { unplaced = λ x h. absurd (contains_none x h); known = λ x h. absurd (contains_none x h); apart = apart_none }

pub waiting_next : (bases places : List (Option ℕ)) (x : ℕ) (way : List ℕ) → IsWayWaiting bases places way → place_in_order places x ≡ None → x < length bases → (Contains way x → ⊥) → IsWayWaiting bases places (x ∷ way)
waiting_next bases places x way w none lt ne = record {
  unplaced = λ y h. unplaced y (cons_cases x y way h);
  known = λ y h. known y (cons_cases x y way h);
  apart = apart_more x way ne w.apart;
}
  where
    unplaced : (y : ℕ) → (x ≡ y) ⊎ Contains way y → place_in_order places y ≡ None
    unplaced y (inl e) = subst (λ n. place_in_order places n ≡ None) e none
    unplaced y (inr h) = w.unplaced y h

    known : (y : ℕ) → (x ≡ y) ⊎ Contains way y → y < length bases
    known y (inl e) = omega arith
    known y (inr h) = w.known y h

has_from_any : (xs : List ℕ) (q : ℕ) → list_any (nat_eq q) xs ≡ true → Contains xs q
has_from_any (x ∷ xs) q e = go (has_from_any xs q) (nat_eq q x) refl e
  where
    go : (list_any (nat_eq q) xs ≡ true → Contains xs q) → (b : Bool) → nat_eq q x ≡ b → (b || list_any (nat_eq q) xs) ≡ true → Contains (x ∷ xs) q
    go more true is f = contains_head x q xs (sym (eqb-true q x is))
    go more false is f = contains_cons x q xs (more f)
has_from_any [] q e = absurd (false≢true e)

-- a way has at most as many nodes as there are
pub way_fits : (bases places : List (Option ℕ)) (way : List ℕ) → IsWayWaiting bases places way → length way ≤ length bases
way_fits bases places way w = length-le_from_distinct_below way (length bases) w.apart (λ q e. w.known q (has_from_any way q e))

-- the edge to a base
base_edge : (bases : List (Option ℕ)) (x b : ℕ) → x < length bases → base_in bases x ≡ Some b → Contains (leads_to (map option_to_list bases) x) b
base_edge bases x b lt e =
    let f : leads_to (map option_to_list bases) x ≡ option_to_list (base_in bases x) = get_or-map option_to_list bases x None [] lt in
    let g : option_to_list (base_in bases x) ≡ b ∷ [] = ap option_to_list e in
    subst (λ (l : List ℕ). Contains l b) (sym (f ∙ g)) (contains_head b b [] refl)

pub climb_begins : (bases places : List (Option ℕ)) (from : ℕ) → from < length bases → IsClimb bases places from (Some from) []
climb_begins bases places from lt = record {
  way = tt;
  waiting = waiting_none bases places;
  leads = λ x b h e. absurd (contains_none x h);
  known = λ b e. let q : from ≡ b = cc in omega arith;
  begun = inr refl;
}

pub climb_next : (bases places : List (Option ℕ)) (from x : ℕ) (next : Option ℕ) (way : List ℕ) → IsForest bases → IsClimb bases places from next way → next ≡ Some x → place_in_order places x ≡ None → IsClimb bases places from (base_in bases x) (x ∷ way)
climb_next bases places from x next way forest c e none = record {
  way = (refl, subst (λ n. IsWay bases n way) e c.way);
  waiting = waiting_next bases places x way c.waiting none lt apart;
  leads = λ y b h f. leads y b f (cons_cases x y way h);
  known = λ b f. forest.known x b f;
  begun = begun c.begun;
}
  where
    lt : x < length bases
    lt = c.known x e

    apart : Contains way x → ⊥
    apart h = forest.never x (c.leads x x h e)

    leads : (y b : ℕ) → base_in bases x ≡ Some b → (x ≡ y) ⊎ Contains way y → Leads (map option_to_list bases) y b
    leads y b f (inl q) = subst (λ n. Leads (map option_to_list bases) n b) q (Edge (base_edge bases x b lt f))
    leads y b f (inr h) = leads_on (map option_to_list bases) y x b (c.leads y x h e) (base_edge bases x b lt f)

    begun : Contains way from ⊎ (next ≡ Some from) → Contains (x ∷ way) from ⊎ (base_in bases x ≡ Some from)
    begun (inl h) = inl (contains_cons x from way h)
    begun (inr f) = let q : x ≡ from = cc in inl (contains_head x from way q)

pub climb_fits : (bases places : List (Option ℕ)) (from x : ℕ) (next : Option ℕ) (way : List ℕ) → IsClimb bases places from next (x ∷ way) → length bases - length (x ∷ way) < length bases - length way
climb_fits bases places from x next way c = let h = way_fits bases places (x ∷ way) c.waiting in omega arith

pub climb_ends : (bases places : List (Option ℕ)) (from : ℕ) (next : Option ℕ) (way : List ℕ) → IsClimb bases places from next way → IsNextFree places next → IsDescent bases places from way
climb_ends bases places from next way c free = record {
  above = next;
  free = free;
  way = c.way;
  waiting = c.waiting;
  begun = begun c.begun;
}
  where
    begun : Contains way from ⊎ (next ≡ Some from) → Contains way from ⊎ HasOrderPlace places from
    begun (inl h) = inl h
    begun (inr e) = inr (free.free from e)

-- ---- the way down

-- the topmost node of a way has a free base
pub top_free : (bases places : List (Option ℕ)) (from x : ℕ) (way : List ℕ) → IsDescent bases places from (x ∷ way) → IsNextFree places (base_in bases x)
top_free bases places from x way d = subst (IsNextFree places) (sym d.way.0) d.free

pub top_waits : (bases places : List (Option ℕ)) (from x : ℕ) (way : List ℕ) → IsDescent bases places from (x ∷ way) → (place_in_order places x ≡ None) × (x < length bases)
top_waits bases places from x way d = (d.waiting.unplaced x (contains_head x x way refl), d.waiting.known x (contains_head x x way refl))

pub descent_next : (bases places : List (Option ℕ)) (from x p : ℕ) (way : List ℕ) → length places ≡ length bases → IsDescent bases places from (x ∷ way) → IsDescent bases (set places x (Some p)) from way
descent_next bases places from x p way len d = record {
  above = Some x;
  free = record { free = λ b e. let q : x ≡ b = cc in subst (HasOrderPlace (set places x (Some p))) q here };
  way = d.way.1;
  waiting = record {
    unplaced = λ y h. get_or-set_other places x y (Some p) None (apart y h) ∙ d.waiting.unplaced y (contains_cons x y way h);
    known = λ y h. d.waiting.known y (contains_cons x y way h);
    apart = IsDistinct-tail nat_eq x way d.waiting.apart;
  };
  begun = begun d.begun;
}
  where
    within : x < length places
    within = let h = d.waiting.known x (contains_head x x way refl) in omega arith

    here : HasOrderPlace (set places x (Some p)) x
    here = record { at = p; is = get_or-set_same places x (Some p) None within }

    apart : (y : ℕ) → Contains way y → y ≢ x
    apart y (k, lt, is) e =
        let all = All-from_recursion (λ z. nat_eq x z ≡ false) way (IsDistinct-head nat_eq x way d.waiting.apart) in
        let f : nat_eq x (get_or way k y) ≡ false = all k y lt in
        let g : x ≡ get_or way k y = sym e ∙ sym is in
        let h : nat_eq x (get_or way k y) ≡ true = eq-eqb x (get_or way k y) g in
        false≢true (sym f ∙ h)

    kept : HasOrderPlace places from → (from ≡ x) ⊎ (from ≡ x → ⊥) → HasOrderPlace (set places x (Some p)) from
    kept h (inl e) = subst (HasOrderPlace (set places x (Some p))) (sym e) here
    kept h (inr ne) = record { at = h.at; is = get_or-set_other places x from (Some p) None ne ∙ h.is }

    split : (x ≡ from) ⊎ Contains way from → Contains way from ⊎ HasOrderPlace (set places x (Some p)) from
    split (inl e) = inr (subst (HasOrderPlace (set places x (Some p))) e here)
    split (inr h) = inl h

    begun : Contains (x ∷ way) from ⊎ HasOrderPlace places from → Contains way from ⊎ HasOrderPlace (set places x (Some p)) from
    begun (inl h) = split (cons_cases x from way h)
    begun (inr h) = inr (kept h (cases_eq from x))

pub descent_ends : (bases places : List (Option ℕ)) (from : ℕ) → IsDescent bases places from [] → HasOrderPlace places from
descent_ends bases places from d = go d.begun
  where
    go : Contains [] from ⊎ HasOrderPlace places from → HasOrderPlace places from
    go (inl h) = absurd (contains_none from h)
    go (inr h) = h

pub keeps_set : (places : List (Option ℕ)) (x p : ℕ) → place_in_order places x ≡ None → KeepsPlaces places (set places x (Some p))
keeps_set places x p none = record { keeps = λ y h. record { at = h.at; is = get_or-set_other places x y (Some p) None (not_placed places x y h.at none h.is) ∙ h.is } }

pub keeps_self : (places : List (Option ℕ)) → KeepsPlaces places places
keeps_self places = record { keeps = λ y h. h }

pub keeps_then : (a b c : List (Option ℕ)) → KeepsPlaces a b → KeepsPlaces b c → KeepsPlaces a c
keeps_then a b c p q = record { keeps = λ y h. q.keeps y (p.keeps y h) }

-- ---- from none to all

no_place : (n x : ℕ) → place_in_order (replicate n None) x ≡ None
no_place n x = go (cases_lt x n)
  where
    go : (x < n) ⊎ (n ≤ x) → place_in_order (replicate n None) x ≡ None
    go (inl lt) = get_or-replicate n x None None lt
    go (inr le) = let none : Option ℕ = None in get_or_past (replicate n none) x none (omega (arith, length-replicate n none))

pub none_placed : (bases : List (Option ℕ)) → AreNodesPlaced bases [] (replicate (length bases) None)
none_placed bases = record {
  len = let none : Option ℕ = None in length-replicate (length bases) none;
  there = λ x p e. let f = no_place (length bases) x in cc;
  back = λ p h. absurd (omega arith);
  behind = λ x b p e f. let g = no_place (length bases) x in cc;
}
