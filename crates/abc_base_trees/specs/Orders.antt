-- An order of nodes in which each stands behind those that it leads to.
use Rattle.std.specs.Prelude.{◌≡◌, ℕ, ◌⊎◌, List, [], ◌∷◌}
use Rattle.abc_base_graphs.specs.Graph.{leads_to, Returns}

-- the value stands in the list
abbrev pub StandsIn : {A : Type 0} → A → List A → Type 0
StandsIn x [] = ⊥
StandsIn x (y ∷ ys) = (x ≡ y) ⊎ StandsIn x ys

-- Some nodes, and all that they lead to.
pub data ReachesNode (graph : List (List ℕ)) (roots : List ℕ) : ℕ → Type 0 where
  Root : {x : ℕ} → StandsIn x roots → ReachesNode graph roots x
  Onward : {x y : ℕ} → ReachesNode graph roots x → StandsIn y (leads_to graph x) → ReachesNode graph roots y

-- None of them returns to itself.
pub record NoneReturns (graph : List (List ℕ)) (roots : List ℕ) : Type 0 where
  pub never : (x : ℕ) → ReachesNode graph roots x → Returns graph x → ⊥

-- those that a node leads to stand before it, or among some others
abbrev pub IsBehindAll : List (List ℕ) → List ℕ → List ℕ → Type 0
IsBehindAll graph before [] = Unit {0}
IsBehindAll graph before (x ∷ xs) = ((y : ℕ) → StandsIn y (leads_to graph x) → StandsIn y before) × IsBehindAll graph (x ∷ before) xs

-- All that some nodes lead to, and these, each behind those that it leads to.
pub record IsVisitOrder (graph : List (List ℕ)) (roots order : List ℕ) : Type 0 where
  pub behind : IsBehindAll graph [] order
  pub rooted : (y : ℕ) → StandsIn y roots → StandsIn y order
  pub reached : (y : ℕ) → StandsIn y order → ReachesNode graph roots y
