use Rattle.abc_base_graphs.specs.Searching.{IsSearch, effort}
use Rattle.abc_base_graphs.proofs.search.reached.Given as goal

abbrev pub invariant-loop-node : goal.invariant-loop-node
invariant-loop-node l = IsSearch l.graph l.from l.search.found.items l.search.todo.items

abbrev pub decreases-loop-node : goal.decreases-loop-node
decreases-loop-node l = effort l.search.found.items l.search.todo.items
