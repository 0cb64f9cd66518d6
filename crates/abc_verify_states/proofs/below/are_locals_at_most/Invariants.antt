use Rattle.std.proofs.Common.{take}
use Rattle.abc_link_names.specs.Kinds.{IsAtMost}
use Rattle.abc_verify_typing.specs.Lists.{Each2}
use Rattle.abc_verify_states.proofs.below.are_locals_at_most.Given as goal

abbrev pub invariant-loop-place : goal.invariant-loop-place
invariant-loop-place g l = Each2 (IsAtMost (g.T.Tree.file l.tree)) (take l.place l.a) (take l.place l.b)
