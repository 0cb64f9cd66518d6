use Rattle.std.proofs.Common.{◌≡◌, ◌+◌, length}
use Rattle.abc_base_trees.specs.Effort.{effort_unmarked}
use Rattle.abc_base_trees.specs.Orders.{NoneReturns}
use Rattle.abc_base_trees.specs.Walks.{IsWalk}
use Rattle.abc_base_trees.proofs.order.parts_first.Given as goal

abbrev pub invariant-loop-task : goal.invariant-loop-task
invariant-loop-task l = record {
  marks : length l.walk.entered.items ≡ length l.graph;
  walk : NoneReturns l.graph l.roots → IsWalk l.graph l.roots l.walk.entered.items l.walk.order l.walk.todo;
}

abbrev pub decreases-loop-task : goal.decreases-loop-task
decreases-loop-task l = effort_unmarked l.graph l.walk.entered.items + length l.walk.todo
