use Rattle.std.proofs.Common.{take}
use Rattle.abc_base_graphs.specs.Searching.{AddsNodes}
use Rattle.abc_base_graphs.proofs.search.Search.add_all.Given as goal

abbrev pub invariant-loop-node : goal.invariant-loop-node
invariant-loop-node l = AddsNodes l.initial.self.found.items l.initial.self.todo.items (take l.node-index l.node-items) l.self.found.items l.self.todo.items
