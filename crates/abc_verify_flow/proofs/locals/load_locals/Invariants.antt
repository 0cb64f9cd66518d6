use Rattle.std.proofs.Common.{◌≡◌, take}
use Rattle.abc_verify_flow.specs.Kept.{concat_blocks, part}
use Rattle.abc_verify_flow.proofs.locals.load_locals.Given as goal

abbrev pub invariant-loop-index : goal.invariant-loop-index
invariant-loop-index l = l.copy ≡ concat_blocks (take l.index (part l.span l.blocks))
