use Rattle.std.proofs.Common.{take}
use Rattle.abc_verify_typing.specs.Typing.{HasOneFlag}
use Rattle.abc_verify_typing.specs.Lists.{Each2}
use Rattle.abc_verify_states.proofs.shape.have_flags.Given as goal

abbrev pub invariant-loop-place : goal.invariant-loop-place
invariant-loop-place l = Each2 HasOneFlag (take l.place l.a) (take l.place l.b)
