use Rattle.std.proofs.Common.{◌≡◌, ℕ, ◌<◌, []}
use Rattle.abc_base_graphs.specs.Orders.{AreNodesPlaced, HasOrderPlace, settled_below}
use Rattle.abc_base_graphs.proofs.order.order_of.Given as goal

abbrev pub invariant-loop-node : goal.invariant-loop-node
invariant-loop-node l = record {
  placed : AreNodesPlaced l.bases l.order.nodes l.order.places;
  all : (x : ℕ) → x < l.node → HasOrderPlace l.order.places x;
  is : l.order.nodes ≡ settled_below l.bases l.node;
  empty : l.way ≡ [];
}
