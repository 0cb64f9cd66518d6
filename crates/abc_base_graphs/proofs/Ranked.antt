-- A node whose edges all fall does not return to itself, where no edge rises.
use Rattle.std.proofs.Common.{◌≡◌, ℕ, ◌<◌, ◌≤◌, ◌⊎◌, inl, inr, List, [], Contains, length, arith, subst}
use Rattle.std.proofs.lemmas.List.Elements.{All-contains}
use Rattle.std.proofs.lemmas.List.{get_or_past}
use Rattle.std.proofs.lemmas.Bool.{cases_lt}
use Rattle.abc_base_graphs.specs.Graph.{leads_to, Leads, Edge, Then, Returns}
use Rattle.abc_base_graphs.specs.Ranks.{rank_of_node, NeverRises, Falls}

rises_not : (graph : List (List ℕ)) (ranks : List ℕ) (x y : ℕ) → NeverRises graph ranks → Contains (leads_to graph x) y → rank_of_node ranks y ≤ rank_of_node ranks x
rises_not graph ranks x y n c = go (cases_lt x (length graph))
  where
    go : (x < length graph) ⊎ (length graph ≤ x) → rank_of_node ranks y ≤ rank_of_node ranks x
    go (inl lt) = All-contains (λ y. rank_of_node ranks y ≤ rank_of_node ranks x) (leads_to graph x) y (n.never x lt) c
    go (inr le) = let e : leads_to graph x ≡ [] = get_or_past graph x [] le in let h : Contains [] y = subst (λ (l : List ℕ). Contains l y) e c in absurd (omega arith)

along : (graph : List (List ℕ)) (ranks : List ℕ) (x y : ℕ) → NeverRises graph ranks → Leads graph x y → rank_of_node ranks y ≤ rank_of_node ranks x
along graph ranks x y n (Edge c) = rises_not graph ranks x y n c
along graph ranks x y n (Then {y = m} c rest) = let a = rises_not graph ranks x m n c in let b = along graph ranks m y n rest in omega arith

pub never_returns : (graph : List (List ℕ)) (ranks : List ℕ) (x : ℕ) → NeverRises graph ranks → Falls graph ranks x → Returns graph x → ⊥
never_returns graph ranks x n f (Edge c) = let a = All-contains (λ y. rank_of_node ranks y < rank_of_node ranks x) (leads_to graph x) x f.falls c in omega arith
never_returns graph ranks x n f (Then {y = m} c rest) = let a = All-contains (λ y. rank_of_node ranks y < rank_of_node ranks x) (leads_to graph x) m f.falls c in let b = along graph ranks m x n rest in omega arith
