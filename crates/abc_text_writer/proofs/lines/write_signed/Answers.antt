use Rattle.std.proofs.Common.{drop, arith, to_z-of_z}
use Rattle.abc_text_writer.proofs.Padding.{signed_start, signed_written}
use Rattle.abc_text_writer.proofs.lines.write_signed.Goals as goal

pub returns-clause-start : goal.returns-clause-start
returns-clause-start c =
    let back = to_z-of_z c.ranges.n in
    let w = c.write_number-at in
    let start = rw (c.unsigned_abs.ensures.value, back) at w.ensures.start in
    rw back (signed_start c.args.n w.result w.ensures.room start)

pub returns-clause-written : goal.returns-clause-written
returns-clause-written c =
    let back = to_z-of_z c.ranges.n in
    let w = c.write_number-at in
    let written = rw (c.unsigned_abs.ensures.value, back) at w.ensures.written in
    rw back (signed_written c.args.n w.new.piece (drop 16 c.args.piece.now) w.result (omega (arith, w.ensures.room)) (omega (arith, w.ensures.start, w.array_long)) written)
