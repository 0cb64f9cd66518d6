use Rattle.std.proofs.Common.{◌≡◌}
use Rattle.std.proofs.Math.Seq.{paste}
use Rattle.abc_verify_flow.specs.Blocks.{blocks_of_64}
use Rattle.abc_verify_flow.proofs.locals.put_locals.Given as goal

abbrev pub invariant-loop-index : goal.invariant-loop-index
invariant-loop-index l = l.blocks ≡ paste l.initial.blocks l.span.first (blocks_of_64 l.span.count l.locals) l.index
