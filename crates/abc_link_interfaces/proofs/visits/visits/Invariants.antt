use Rattle.abc_link_interfaces.specs.Sets.{ListsBelow}
use Rattle.abc_link_interfaces.proofs.visits.visits.Given as goal

abbrev pub invariant-loop-node : goal.invariant-loop-node
invariant-loop-node l = ListsBelow l.nodes.items l.node
