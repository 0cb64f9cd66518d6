use Rattle.std.proofs.Common.{◌≡◌, ◌++◌, length}
use Rattle.abc_base_graphs.specs.Orders.{AreNodesPlaced, IsDescent, KeepsPlaces}
use Rattle.abc_base_graphs.proofs.order.Order.descend.Given as goal

abbrev pub invariant-loop-node : goal.invariant-loop-node
invariant-loop-node l = record {
  placed : AreNodesPlaced l.bases l.self.nodes l.self.places;
  descent : IsDescent l.bases l.self.places l.from l.way;
  pushed : l.self.nodes ++ l.way ≡ l.initial.self.nodes ++ l.initial.way;
  keeps : KeepsPlaces l.initial.self.places l.self.places;
}

abbrev pub decreases-loop-node : goal.decreases-loop-node
decreases-loop-node l = length l.way
