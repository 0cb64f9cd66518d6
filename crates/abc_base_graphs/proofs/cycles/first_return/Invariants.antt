use Rattle.std.proofs.Common.{ℕ, ◌<◌}
use Rattle.abc_base_graphs.specs.Graph.{Returns}
use Rattle.abc_base_graphs.proofs.cycles.first_return.Given as goal

abbrev pub invariant-loop-x : goal.invariant-loop-x
invariant-loop-x l = (k : ℕ) → k < l.x → Returns l.graph k → ⊥
