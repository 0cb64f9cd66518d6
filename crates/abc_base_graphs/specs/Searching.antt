-- A search over a graph: the nodes that were found, and those whose edges are still to be followed.
use Rattle.std.specs.Prelude.{◌≡◌, ℕ, ◌+◌, ◌*◌, ◌≤◌, ◌⊎◌, List, Contains, Bool, not, length, count_by}
use Rattle.abc_base_graphs.specs.Graph.{leads_to, Has, Leads}

-- how much is left to do, at most
abbrev pub effort : List Bool → List ℕ → ℕ
effort found todo = 2 * count_by not found + length todo

-- some nodes were found: what was found or is to be done stays, and what is found anew is to be done
pub record AddsNodes (found : List Bool) (todo : List ℕ) (nodes : List ℕ) (found2 : List Bool) (todo2 : List ℕ) : Type 0 where
  pub len : length found2 ≡ length found
  pub stays : (x : ℕ) → Has found x → Has found2 x
  pub each : (x : ℕ) → Contains nodes x → Has found2 x
  pub only : (x : ℕ) → Has found2 x → Has found x ⊎ (Contains nodes x × Contains todo2 x)
  pub keeps : (x : ℕ) → Contains todo x → Contains todo2 x
  pub todo_new : (x : ℕ) → Contains todo2 x → Contains todo x ⊎ Has found2 x
  pub less : effort found2 todo2 ≤ effort found todo

-- every found node comes from the first, and all that it leads to is found unless it is still to be done
pub record IsSearch (graph : List (List ℕ)) (from : ℕ) (found : List Bool) (todo : List ℕ) : Type 0 where
  pub len : length found ≡ length graph
  pub sound : (x : ℕ) → Has found x → Leads graph from x
  pub begun : (y : ℕ) → Contains (leads_to graph from) y → Has found y
  pub closed : (x : ℕ) → Has found x → Contains todo x ⊎ ((y : ℕ) → Contains (leads_to graph x) y → Has found y)
  pub todo_found : (x : ℕ) → Contains todo x → Has found x
