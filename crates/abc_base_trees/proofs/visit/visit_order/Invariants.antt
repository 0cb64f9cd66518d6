use Rattle.std.proofs.Common.{◌+◌, length}
use Rattle.abc_base_trees.specs.Effort.{effort_unmarked}
use Rattle.abc_base_trees.specs.Visits.{IsVisitOf}
use Rattle.abc_base_trees.proofs.visit.visit_order.Given as goal

abbrev pub invariant-loop-node : goal.invariant-loop-node
invariant-loop-node l = IsVisitOf l.heads l.graph l.classes.keys.keys l.classes.classes l.roots l.visit.met.items l.visit.opened.items l.visit.seen l.visit.todo

abbrev pub decreases-loop-node : goal.decreases-loop-node
decreases-loop-node l = effort_unmarked l.graph l.visit.opened.items + length l.visit.todo
