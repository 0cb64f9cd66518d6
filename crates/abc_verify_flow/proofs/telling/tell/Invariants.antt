use Rattle.abc_verify_flow.proofs.Told.{IsTelling}
use Rattle.abc_verify_flow.proofs.telling.tell.Given as goal

abbrev pub invariant-loop-node : goal.invariant-loop-node
invariant-loop-node g l = IsTelling (g.F.Flow.file l.flow) (g.F.Flow.routine l.flow) (g.F.Flow.heads l.flow) l.stabs l.place l.node l.seen.locals l.initial.states l.initial.work l.told l.states l.work

abbrev pub decreases-loop-node : goal.decreases-loop-node
decreases-loop-node g l = l.node
