use Rattle.abc_verify_flow.proofs.Told.{IsCatching}
use Rattle.abc_verify_flow.proofs.telling.catch_all.Given as goal

abbrev pub invariant-loop-hang : goal.invariant-loop-hang
invariant-loop-hang g l = IsCatching (g.F.Flow.file l.flow) (g.F.Flow.routine l.flow) (g.F.Flow.heads l.flow) l.stabs l.node l.initial.caught.locals l.caught.locals l.link l.initial.states l.initial.work l.states l.work

abbrev pub decreases-loop-hang : goal.decreases-loop-hang
decreases-loop-hang g l = l.link
