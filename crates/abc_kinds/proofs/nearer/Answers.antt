use Rattle.abc_kinds.proofs.Climbing.{nears_one}
use Rattle.abc_kinds.proofs.nearer.Goals as goal

pub returns : goal.returns
returns g c = nears_one (g.T.Tree.file c.args.tree.now) c.requires.linked c.args.at.0 c.args.other.0 c.above.result.0 c.requires.apart c.above.ensures
