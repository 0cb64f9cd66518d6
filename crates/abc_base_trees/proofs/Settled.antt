-- Each node of an order has a class.
use Rattle.std.proofs.Common.{◌≡◌, ℕ, zero, suc, ◌+◌, ◌<◌, ◌≤◌, ◌⊎◌, inl, inr, List, [], ◌∷◌, ◌++◌, All, length, get_or, Some, None, refl, sym, ap, subst, ◌∙◌, arith, get_or-set_other, get_or-set_same, replicate, take}
use Rattle.std.proofs.Math.ListN.{set}
use Rattle.std.specs.declared.option.Option.{Option}
use Rattle.std.proofs.lemmas.Bool.{cases_eq, cases_lt}
use Rattle.std.proofs.lemmas.List.{take_all, take_more}
use Rattle.abc_base_graphs.specs.Graph.{leads_to}
use Rattle.abc_base_trees.specs.Classes.{AllClassed, AreSettled, Gains, HasClass, HasUnclassed, tree_class}
use Rattle.abc_base_trees.specs.Orders.{StandsIn, IsBehindAll}
use Rattle.abc_base_trees.proofs.Efforts.{below_zero}
use Rattle.abc_base_trees.proofs.Meanings.{has_class_on}
use Rattle.abc_base_trees.proofs.Walked.{in_at, in_last, in_left}

pub unclassed : (graph : List (List ℕ)) (x : ℕ) (classes : List (Option ℕ)) (i p : ℕ) → i < length (leads_to graph x) → p ≡ get_or (leads_to graph x) i 0 → None ≡ tree_class classes p → HasUnclassed graph x classes
unclassed graph x classes i p lt at e = record { part = i; within = lt; none = sym (e ∙ ap (tree_class classes) at) }

pub gains_nothing : (graph : List (List ℕ)) (x : ℕ) (classes : List (Option ℕ)) → length graph ≤ x → Gains graph x classes classes
gains_nothing graph x classes le = record { keeps = λ y h. h; gains = λ lt parts. absurd (no lt); only = λ y h. inl h }
  where
    no : x < length graph → ⊥
    no lt = omega arith

pub gains_none : (graph : List (List ℕ)) (x : ℕ) (old new : List (Option ℕ)) → new ≡ old → HasUnclassed graph x new → Gains graph x old new
gains_none graph x old new e u = record { keeps = λ y h. subst (λ cs. HasClass cs y) (sym e) h; gains = λ lt parts. absurd (no (parts u.part u.within)); only = λ y h. inl (subst (λ cs. HasClass cs y) e h) }
  where
    no : HasClass old (get_or (leads_to graph x) u.part 0) → ⊥
    no h = let f : tree_class old (get_or (leads_to graph x) u.part 0) ≡ None = ap (λ cs. tree_class cs (get_or (leads_to graph x) u.part 0)) (sym e) ∙ u.none in let g = h.is in absurd (some_none f g)
      where
        some_none : {o : Option ℕ} {n : ℕ} → o ≡ None → o ≡ Some n → ⊥
        some_none a b = cc

pub gains_one : (graph : List (List ℕ)) (x c : ℕ) (old mid new : List (Option ℕ)) → mid ≡ old → new ≡ set mid x (Some c) → x < length mid → Gains graph x old new
gains_one graph x c old mid new e f within = record {
  keeps = λ y h. subst (λ cs. HasClass cs y) (sym f) (has_class_on mid x c y within (subst (λ cs. HasClass cs y) (sym e) h));
  gains = λ lt parts. subst (λ cs. HasClass cs x) (sym f) (record { number = c; is = get_or-set_same mid x (Some c) None within });
  only = λ y h. only y (cases_eq y x) h;
}
  where
    only : (y : ℕ) → (y ≡ x) ⊎ (y ≡ x → ⊥) → HasClass new y → HasClass old y ⊎ (y ≡ x)
    only y (inl q) h = inr q
    only y (inr ne) h = inl (record { number = h.number; is = ap (λ cs. tree_class cs y) (sym e) ∙ sym (get_or-set_other mid x y (Some c) None ne) ∙ sym (ap (λ cs. tree_class cs y) f) ∙ h.is })

-- what a node of an order leads to stands before it
behind_at : (graph : List (List ℕ)) (before order : List ℕ) (k y : ℕ) → IsBehindAll graph before order → k < length order → StandsIn y (leads_to graph (get_or order k 0)) → StandsIn y before ⊎ ((j : ℕ) × (j < k) × (get_or order j 0 ≡ y))
behind_at graph before [] k y b lt h = absurd (below_zero k lt)
behind_at graph before (x ∷ xs) zero y b lt h = inl (b.0 y h)
behind_at graph before (x ∷ xs) (suc k) y b lt h = go (behind_at graph (x ∷ before) xs k y b.1 (omega arith) h)
  where
    go : StandsIn y (x ∷ before) ⊎ ((j : ℕ) × (j < k) × (get_or xs j 0 ≡ y)) → StandsIn y before ⊎ ((j : ℕ) × (j < suc k) × (get_or (x ∷ xs) j 0 ≡ y))
    go (inl (inl e)) = inr (zero, omega arith, sym e)
    go (inl (inr a)) = inl a
    go (inr (j, l, e)) = inr (suc j, omega (arith, l), e)

pub settled_next : (graph : List (List ℕ)) (order : List ℕ) (old new : List (Option ℕ)) (n x : ℕ) → IsBehindAll graph [] order → All (λ y. y < length graph) order → AreSettled old order n → n < length order → x ≡ get_or order n 0 → Gains graph x old new → AreSettled new order (n + 1)
settled_next graph order old new n x b all s lt at g = record { settled = λ k l m. go k l m (cases_lt k n) }
  where
    part : (k : ℕ) → k < length (leads_to graph x) → HasClass old (get_or (leads_to graph x) k 0)
    part k l = by (behind_at graph [] order n (get_or (leads_to graph x) k 0) b lt (subst (λ z. StandsIn (get_or (leads_to graph x) k 0) (leads_to graph z)) at (in_at (leads_to graph x) k 0 l)))
      where
        by : StandsIn (get_or (leads_to graph x) k 0) [] ⊎ ((j : ℕ) × (j < n) × (get_or order j 0 ≡ get_or (leads_to graph x) k 0)) → HasClass old (get_or (leads_to graph x) k 0)
        by (inl h) = absurd h
        by (inr (j, h, e)) = let within : j < length order = omega (arith, h, lt) in subst (HasClass old) e (s.settled j h within)

    go : (k : ℕ) → k < n + 1 → k < length order → (k < n) ⊎ (n ≤ k) → HasClass new (get_or order k 0)
    go k l m (inl h) = g.keeps (get_or order k 0) (s.settled k h m)
    go k l m (inr h) =
        let q : n ≡ k = omega arith in
        let within : x < length graph = subst (λ z. z < length graph) (sym at) (all n 0 lt) in
        subst (λ z. HasClass new (get_or order z 0)) q (subst (HasClass new) at (g.gains within part))

pub none_settled : (classes : List (Option ℕ)) (order : List ℕ) → AreSettled classes order 0
none_settled classes order = record { settled = λ k l m. absurd (below_zero k l) }

pub all_settled : (classes : List (Option ℕ)) (order : List ℕ) (n y : ℕ) → AreSettled classes order n → length order ≤ n → StandsIn y order → HasClass classes y
all_settled classes order n y s le h = go order y h (λ k l. s.settled k (omega arith) l)
  where
    go : (xs : List ℕ) (y : ℕ) → StandsIn y xs → ((k : ℕ) → k < length xs → HasClass classes (get_or xs k 0)) → HasClass classes y
    go [] y h f = absurd h
    go (x ∷ xs) y (inl e) f = subst (HasClass classes) (sym e) (f 0 (omega arith))
    go (x ∷ xs) y (inr h) f = go xs y h (λ k l. f (suc k) (omega arith))

-- ---- only nodes of the order have classes

pub none_has : (classes : List (Option ℕ)) (n y : ℕ) → classes ≡ replicate n None → HasClass classes y → ⊥
none_has classes n y e h = some_none (sym (ap (λ cs. tree_class cs y) e ∙ none_at n y) ∙ h.is)
  where
    some_none : {m : ℕ} → None ≡ Some m → ⊥
    some_none f = cc

    none_at : (n y : ℕ) → tree_class (replicate n None) y ≡ None
    none_at zero y = refl
    none_at (suc n) zero = refl
    none_at (suc n) (suc y) = none_at n y

pub only_next : (graph : List (List ℕ)) (order : List ℕ) (old new : List (Option ℕ)) (n x : ℕ) → ((y : ℕ) → HasClass old y → StandsIn y (take n order)) → n < length order → x ≡ get_or order n 0 → Gains graph x old new → (y : ℕ) → HasClass new y → StandsIn y (take (n + 1) order)
only_next graph order old new n x before lt at g y h = subst (StandsIn y) (sym (take_more order n 0 lt)) (go (g.only y h))
  where
    go : HasClass old y ⊎ (y ≡ x) → StandsIn y (take n order ++ get_or order n 0 ∷ [])
    go (inl k) = in_left y (take n order) (get_or order n 0 ∷ []) (before y k)
    go (inr q) = subst (λ z. StandsIn y (take n order ++ z ∷ [])) (q ∙ at) (in_last y (take n order))

pub only_all : (order : List ℕ) (n y : ℕ) → StandsIn y (take n order) → StandsIn y order
only_all [] zero y h = h
only_all [] (suc n) y h = h
only_all (x ∷ xs) zero y h = absurd h
only_all (x ∷ xs) (suc n) y (inl e) = inl e
only_all (x ∷ xs) (suc n) y (inr h) = inr (only_all xs n y h)

-- ---- whether some nodes all have classes

classed_append : (classes : List (Option ℕ)) (xs ys : List ℕ) → AllClassed classes xs → AllClassed classes ys → AllClassed classes (xs ++ ys)
classed_append classes [] ys p q = q
classed_append classes (x ∷ xs) ys p q = (p.0, classed_append classes xs ys p.1 q)

pub classed_next : (classes : List (Option ℕ)) (xs : List ℕ) (i c : ℕ) → AllClassed classes (take i xs) → i < length xs → Some c ≡ tree_class classes (get_or xs i 0) → AllClassed classes (take (i + 1) xs)
classed_next classes xs i c before lt at =
    subst (AllClassed classes) (sym (take_more xs i 0 lt)) (classed_append classes (take i xs) (get_or xs i 0 ∷ []) before (record { number = c; is = sym at }, tt))

pub unclassed_at : (classes : List (Option ℕ)) (xs : List ℕ) (i : ℕ) → AllClassed classes xs → i < length xs → None ≡ tree_class classes (get_or xs i 0) → ⊥
unclassed_at classes [] i h lt at = below_zero i lt
unclassed_at classes (x ∷ xs) zero h lt at = none_some (at ∙ h.0.is)
  where
    none_some : {m : ℕ} → None ≡ Some m → ⊥
    none_some f = cc
unclassed_at classes (x ∷ xs) (suc i) h lt at = unclassed_at classes xs i h.1 (omega arith) at

pub classed_whole : (classes : List (Option ℕ)) (xs : List ℕ) (i : ℕ) → AllClassed classes (take i xs) → length xs ≤ i → AllClassed classes xs
classed_whole classes xs i h le = subst (AllClassed classes) (take_all i xs le) h
