use Rattle.abc_link_interfaces.specs.Sets.{ListsMarked}
use Rattle.abc_link_interfaces.proofs.sets.marked.Given as goal

abbrev pub invariant-loop-class : goal.invariant-loop-class
invariant-loop-class l = ListsMarked l.abc l.marks l.list.items l.class
