use Rattle.std.proofs.Common.{take}
use Rattle.abc_link_names.specs.Kinds.{IsAtMost}
use Rattle.abc_verify_typing.specs.Lists.{Each2}
use Rattle.abc_verify_flow.proofs.below.are_operands_below.Given as goal

abbrev pub invariant-loop-depth : goal.invariant-loop-depth
invariant-loop-depth g l = Each2 (IsAtMost (g.F.Flow.file l.flow)) (take l.depth l.stack) (take l.depth l.others)
