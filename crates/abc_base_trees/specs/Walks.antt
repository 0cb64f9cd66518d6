-- For the prover alone: a walk that enters nodes and leaves them.
use Rattle.std.specs.Prelude.{◌≡◌, ℕ, ◌⊎◌, List, [], ◌∷◌, Bool, true, false, get_or}
use Rattle.abc_base_graphs.specs.Graph.{leads_to, Leads}
use Rattle.abc_base_trees.specs.declared.order.Task.{Task}
use Rattle.abc_base_trees.specs.Orders.{StandsIn, IsBehindAll, ReachesNode}

abbrev pub enter : ℕ → Task
enter x = record { node = x; is_leaving = false }

abbrev pub leave : ℕ → Task
leave x = record { node = x; is_leaving = true }

-- the stack once some nodes are to be entered too
abbrev pub with_entries : List ℕ → List Task → List Task
with_entries [] todo = todo
with_entries (x ∷ xs) todo = with_entries xs (enter x ∷ todo)

-- each node that is to be left leads to those above it
abbrev pub IsPath : List (List ℕ) → List Task → Type 0
IsPath graph [] = Unit {0}
IsPath graph (t ∷ ts) = ((z : ℕ) → StandsIn (leave z) ts → Leads graph z t.node) × IsPath graph ts

-- what a node that is to be left leads to was left, or stands above it
abbrev pub CanLeaveAll : List (List ℕ) → List ℕ → List ℕ → List Task → Type 0
CanLeaveAll graph order above [] = Unit {0}
CanLeaveAll graph order above (t ∷ ts) = (t.is_leaving ≡ true → (y : ℕ) → StandsIn y (leads_to graph t.node) → StandsIn y order ⊎ StandsIn y above) × CanLeaveAll graph order (t.node ∷ above) ts

pub record IsWalk (graph : List (List ℕ)) (roots : List ℕ) (entered : List Bool) (order : List ℕ) (todo : List Task) : Type 0 where
  pub reach : (t : Task) → StandsIn t todo → ReachesNode graph roots t.node
  pub path : IsPath graph todo
  pub placed : (x : ℕ) → get_or entered x false ≡ true → StandsIn x order ⊎ StandsIn (leave x) todo
  pub ready : CanLeaveAll graph order [] todo
  pub behind : IsBehindAll graph [] order
  pub reached : (x : ℕ) → StandsIn x order → ReachesNode graph roots x
  pub begun : (y : ℕ) → StandsIn y roots → StandsIn y order ⊎ ((t : Task) × StandsIn t todo × (t.node ≡ y))
