use Rattle.std.proofs.Common.{◌≡◌, ◌++◌}
use Rattle.abc_verify_flow.specs.Blocks.{blocks_of_64}
use Rattle.abc_verify_flow.proofs.locals.add_locals.Given as goal

abbrev pub invariant-loop-index : goal.invariant-loop-index
invariant-loop-index l = l.blocks ≡ l.initial.blocks ++ blocks_of_64 l.index l.locals
