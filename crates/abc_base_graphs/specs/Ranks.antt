-- Ranks of nodes that tell, where they are well chosen, which nodes do not return to themselves.
use Rattle.std.specs.Prelude.{ℕ, ◌<◌, ◌≤◌, List, All, length, get_or}
use Rattle.abc_base_graphs.specs.Graph.{leads_to}

abbrev pub rank_of_node : List ℕ → ℕ → ℕ
rank_of_node ranks x = get_or ranks x 0

-- no edge rises
pub record NeverRises (graph : List (List ℕ)) (ranks : List ℕ) : Type 0 where
  pub never : (x : ℕ) → x < length graph → All (λ y. rank_of_node ranks y ≤ rank_of_node ranks x) (leads_to graph x)

-- each edge of the node falls
pub record Falls (graph : List (List ℕ)) (ranks : List ℕ) (x : ℕ) : Type 0 where
  pub falls : All (λ y. rank_of_node ranks y < rank_of_node ranks x) (leads_to graph x)
