use Rattle.std.proofs.Common.{◌≡◌, length}
use Rattle.abc_base_graphs.proofs.ranks.Walk.walk.Given as goal

abbrev pub invariant-loop-step : goal.invariant-loop-step
invariant-loop-step l = length l.self.ranks.items ≡ length l.initial.self.ranks.items
