use Rattle.std.proofs.Common.{◌-◌, length}
use Rattle.abc_verify_typing.specs.Effects.{covering}
use Rattle.abc_verify_flow.specs.Walking.{IsWalking}
use Rattle.abc_verify_flow.proofs.walk.pace.Given as goal

abbrev pub invariant-passing : goal.invariant-passing
invariant-passing g l = IsWalking (g.F.Flow.file l.flow) (g.F.Flow.routine l.flow) (g.F.Flow.heads l.flow) (covering (g.F.Flow.routine l.flow) l.start) l.start l.initial.now l.place l.now l.seen l.written l.initial.states l.initial.work l.states l.work

abbrev pub decreases-passing : goal.decreases-passing
decreases-passing g l = length (g.F.Flow.routine l.flow).code - l.place
