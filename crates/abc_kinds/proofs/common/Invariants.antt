use Rattle.abc_kinds.proofs.Climbing.{Meeting}
use Rattle.abc_kinds.proofs.common.Given as goal

abbrev pub invariant-loop-b : goal.invariant-loop-b
invariant-loop-b g l = Meeting (g.T.Tree.file l.tree) l.fn.a.0 l.fn.b.0 l.at.0

abbrev pub decreases-loop-b : goal.decreases-loop-b
decreases-loop-b g l = l.at.0
