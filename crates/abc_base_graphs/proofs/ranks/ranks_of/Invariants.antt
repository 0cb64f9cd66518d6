use Rattle.std.proofs.Common.{◌≡◌, length}
use Rattle.abc_base_graphs.proofs.ranks.ranks_of.Given as goal

abbrev pub invariant-loop-node : goal.invariant-loop-node
invariant-loop-node l = length l.walk.ranks.items ≡ length l.graph
