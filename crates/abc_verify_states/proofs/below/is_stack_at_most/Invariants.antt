use Rattle.std.proofs.Common.{take}
use Rattle.abc_link_names.specs.Kinds.{IsAtMost}
use Rattle.abc_verify_typing.specs.Lists.{Each2}
use Rattle.abc_verify_states.proofs.below.is_stack_at_most.Given as goal

abbrev pub invariant-loop-depth : goal.invariant-loop-depth
invariant-loop-depth g l = Each2 (IsAtMost (g.T.Tree.file l.tree)) (take l.depth l.a) (take l.depth l.b)
