use Rattle.std.proofs.Common.{take}
use Rattle.abc_link_rules.specs.Times.{AreTimes}
use Rattle.abc_link_rules.proofs.times.times_of.Given as goal

abbrev pub invariant-loop-place : goal.invariant-loop-place
invariant-loop-place l = AreTimes l.times.items (take l.place l.methods) l.count
