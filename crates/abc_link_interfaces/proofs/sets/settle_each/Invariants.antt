use Rattle.std.proofs.Common.{length}
use Rattle.abc_link_interfaces.specs.Sets.{SettlesEach}
use Rattle.abc_link_interfaces.proofs.sets.settle_each.Given as goal

abbrev pub invariant-loop-class : goal.invariant-loop-class
invariant-loop-class l = SettlesEach l.abc (length l.graph) l.sets l.nodes l.class-index
