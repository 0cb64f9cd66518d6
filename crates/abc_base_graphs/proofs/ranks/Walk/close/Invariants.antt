use Rattle.std.proofs.Common.{◌≡◌, length, vec_len}
use Rattle.abc_base_graphs.proofs.ranks.Walk.close.Given as goal

abbrev pub invariant-loop-member : goal.invariant-loop-member
invariant-loop-member l = length l.self.ranks.items ≡ length l.initial.self.ranks.items

abbrev pub decreases-loop-member : goal.decreases-loop-member
decreases-loop-member l = vec_len l.self.open
