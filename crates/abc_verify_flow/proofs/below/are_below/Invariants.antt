use Rattle.std.proofs.Common.{take}
use Rattle.abc_link_names.specs.Kinds.{IsAtMost}
use Rattle.abc_verify_typing.specs.Lists.{Each2}
use Rattle.abc_verify_flow.proofs.below.are_below.Given as goal

abbrev pub invariant-loop-place : goal.invariant-loop-place
invariant-loop-place g l = Each2 (IsAtMost (g.F.Flow.file l.flow)) (take l.place l.kinds) (take l.place l.others)
