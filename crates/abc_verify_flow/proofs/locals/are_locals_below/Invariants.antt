use Rattle.std.proofs.Common.{take}
use Rattle.abc_link_names.specs.Kinds.{IsAtMost}
use Rattle.abc_verify_typing.specs.Lists.{Each2}
use Rattle.abc_verify_flow.specs.Blocks.{blocks_of_64}
use Rattle.abc_verify_flow.specs.Kept.{concat_blocks, part}
use Rattle.abc_verify_flow.proofs.locals.are_locals_below.Given as goal

abbrev pub invariant-loop-index : goal.invariant-loop-index
invariant-loop-index g l = Each2 (IsAtMost (g.F.Flow.file l.flow)) (concat_blocks (blocks_of_64 l.index l.locals)) (concat_blocks (take l.index (part l.span l.blocks)))
