use Rattle.abc_kinds.proofs.Climbing.{meeting_nears}
use Rattle.abc_kinds.proofs.common.Goals as goal

pub loop-b-preserved : goal.loop-b-preserved
loop-b-preserved g c = meeting_nears (g.T.Tree.file c.args.tree.now) c.args.a.0 c.args.b.0 c.loop-b.at.0 c.nearer-at.result.0 c.loop-b.invariant c.nearer-at.ensures
