-- Graphs: for each node the list of the nodes that it leads to (a tool of other definitions).
use Rattle.std.specs.Prelude.{◌≡◌, ℕ, ◌<◌, List, [], All, Contains, Bool, true, false, length, get_or, Some, None}
use Rattle.std.specs.declared.option.Option.{Option}

abbrev pub leads_to : List (List ℕ) → ℕ → List ℕ
leads_to graph x = get_or graph x []

-- each edge leads to a node
abbrev pub IsGraph : List (List ℕ) → Type 0
IsGraph graph = All (All (λ y. y < length graph)) graph

-- one edge, or several in a row, lead from a node to another
pub data Leads (graph : List (List ℕ)) : ℕ → ℕ → Type 0 where
  Edge : {x y : ℕ} → Contains (leads_to graph x) y → Leads graph x y
  Then : {x y z : ℕ} → Contains (leads_to graph x) y → Leads graph y z → Leads graph x z

-- following edges from the node returns to it
abbrev pub Returns : List (List ℕ) → ℕ → Type 0
Returns graph x = Leads graph x x

-- ---- sets of nodes, as one mark for each node

-- the node x is one of those that are marked
pub record Has (marks : List Bool) (x : ℕ) : Type 0 where
  pub marked : get_or marks x false ≡ true

-- the marks are those of the nodes that one node leads to
pub record AreReachMarks (graph : List (List ℕ)) (from : ℕ) (marks : List Bool) : Type 0 where
  pub len : length marks ≡ length graph
  pub sound : (y : ℕ) → Has marks y → Leads graph from y
  pub complete : (y : ℕ) → Leads graph from y → Has marks y

-- ---- which nodes return to themselves

-- The first node that returns to itself, or none where none does.
abbrev pub IsFirstReturn : List (List ℕ) → Option ℕ → Type 0
IsFirstReturn graph None = (x : ℕ) → x < length graph → Returns graph x → ⊥
IsFirstReturn graph (Some x) = (x < length graph) × Returns graph x × ((y : ℕ) → y < x → Returns graph y → ⊥)
