use Rattle.std.proofs.Common.{take}
use Rattle.abc_verify_typing.specs.Typing.{ScopeLe}
use Rattle.abc_verify_typing.specs.Lists.{Each2}
use Rattle.abc_verify_flow.proofs.below.are_scopes_below.Given as goal

abbrev pub invariant-loop-place : goal.invariant-loop-place
invariant-loop-place g l = Each2 (ScopeLe (g.F.Flow.file l.flow)) (take l.place l.scopes) (take l.place l.others)
