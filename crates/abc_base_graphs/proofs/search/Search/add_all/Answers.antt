use Rattle.abc_base_graphs.proofs.Searched.{adds_next}
use Rattle.abc_base_graphs.proofs.search.Search.add_all.Goals as goal

pub loop-node-preserved : goal.loop-node-preserved
loop-node-preserved c = adds_next _ _ _ _ _ _ _ _ c.loop-node-test.true c.loop-node.invariant c.in_ok-add.ensures
