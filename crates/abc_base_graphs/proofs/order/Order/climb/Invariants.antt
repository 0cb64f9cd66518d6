use Rattle.std.proofs.Common.{◌-◌, length}
use Rattle.abc_base_graphs.specs.Orders.{IsClimb, IsWayTo}
use Rattle.abc_base_graphs.proofs.order.Order.climb.Given as goal

abbrev pub invariant-loop-node : goal.invariant-loop-node
invariant-loop-node l = record {
  climb : IsClimb l.bases l.self.places l.from l.next l.way;
  way_to : IsWayTo l.bases l.self.nodes l.from l.next l.way;
}

abbrev pub decreases-loop-node : goal.decreases-loop-node
decreases-loop-node l = length l.bases - length l.way
