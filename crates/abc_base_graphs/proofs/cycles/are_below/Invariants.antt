use Rattle.std.proofs.Common.{ℕ, ◌<◌, get_or}
use Rattle.abc_base_graphs.specs.Ranks.{rank_of_node}
use Rattle.abc_base_graphs.proofs.cycles.are_below.Given as goal

abbrev pub invariant-loop-y : goal.invariant-loop-y
invariant-loop-y l = (k : ℕ) → k < l.y-index → rank_of_node l.ranks (get_or l.y-items k 0) < l.limit
