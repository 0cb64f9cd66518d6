use Rattle.std.proofs.Common.{ℕ, ◌<◌, ◌≤◌, All}
use Rattle.abc_base_graphs.specs.Graph.{leads_to}
use Rattle.abc_base_graphs.specs.Ranks.{rank_of_node}
use Rattle.abc_base_graphs.proofs.cycles.never_rises.Given as goal

abbrev pub invariant-loop-x : goal.invariant-loop-x
invariant-loop-x l = (k : ℕ) → k < l.x → All (λ y. rank_of_node l.ranks y ≤ rank_of_node l.ranks k) (leads_to l.graph k)
