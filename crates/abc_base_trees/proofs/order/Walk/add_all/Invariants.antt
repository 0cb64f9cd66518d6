use Rattle.std.proofs.Common.{◌≡◌, take}
use Rattle.abc_base_trees.specs.Walks.{with_entries}
use Rattle.abc_base_trees.proofs.order.Walk.add_all.Given as goal

abbrev pub invariant-loop-node : goal.invariant-loop-node
invariant-loop-node l = record {
  todo : l.self.todo ≡ with_entries (take l.node-index l.nodes) l.initial.self.todo;
  entered : l.self.entered.items ≡ l.initial.self.entered.items;
  order : l.self.order ≡ l.initial.self.order;
}
