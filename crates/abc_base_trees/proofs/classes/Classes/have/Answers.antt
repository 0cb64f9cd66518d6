use Rattle.std.proofs.Common.{sym, true≢false}
use Rattle.abc_base_trees.proofs.Settled.{classed_next, unclassed_at}
use Rattle.abc_base_trees.proofs.classes.Classes.have.Goals as goal

pub returns-in-None : goal.returns-in-None
returns-in-None c = (
  λ t. absurd (true≢false (sym t)),
  λ h. absurd (unclassed_at c.args.self.now.classes c.args.nodes.now c.loop-node.node-index h c.loop-node-test.true c.in-None.ensures),
)

pub loop-node-preserved : goal.loop-node-preserved
loop-node-preserved c = classed_next c.args.self.now.classes c.args.nodes.now c.loop-node.node-index _ c.loop-node.invariant c.loop-node-test.true c.in-Some.ensures
