use Rattle.std.proofs.Common.{◌++◌, length-append, arith}
use Rattle.std.proofs.KnownBytes.{Consumes-trans}
use Rattle.abc_log.proofs.log_part.read_part.Goals as goal

-- what was lost in the last call is taken too
pub returns-in_err-read_more-clause-taken : goal.returns-in_err-read_more-clause-taken
returns-in_err-read_more-clause-taken g c =
    let lost = c.in_err-read_more.ensures.moves in (
      c.loop-bytes.bytes.items ++ lost.0,
      Consumes-trans _ _ _ c.loop-bytes.bytes.items lost.0 c.loop-bytes.invariant.taken lost.1,
      omega (arith, length-append c.loop-bytes.bytes.items lost.0, lost.2, c.loop-bytes.invariant.few, c.len-in-loop-bytes.ensures),
    )
