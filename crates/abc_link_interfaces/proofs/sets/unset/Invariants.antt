use Rattle.abc_link_interfaces.specs.Sets.{AreUnset}
use Rattle.abc_link_interfaces.proofs.sets.unset.Given as goal

abbrev pub invariant-loop-class : goal.invariant-loop-class
invariant-loop-class l = AreUnset l.sets l._class
