use Rattle.std.proofs.Common.{◌≡◌, map, take}
use Rattle.abc_tidy_entries.specs.NewPools.{entries_of_nodes}
use Rattle.abc_tidy_entries.proofs.pools.new_pool.Given as goal

abbrev pub invariant-loop-node : goal.invariant-loop-node
invariant-loop-node g l = l.pool ≡ map (g.T.Entry.new l.numbers) (entries_of_nodes l.before l.items (take l.node-index l.node-items))
