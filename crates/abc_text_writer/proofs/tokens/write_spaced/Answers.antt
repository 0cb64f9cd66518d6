use Rattle.std.proofs.Common.{◌≡◌, ◌+◌, ◌-◌, arith, to_z-of_z}
use Rattle.std.proofs.lemmas.List.{drop-set}
use Rattle.abc_text_writer.proofs.tokens.write_spaced.Goals as goal

pub returns-clause-written : goal.returns-clause-written
returns-clause-written c =
    let w = c.write_signed-at in
    let e : w.result - 1 + 1 ≡ w.result = omega arith in
    let back = to_z-of_z c.ranges.n in
    rw (drop-set w.new.piece (w.result - 1) 32 (omega arith), e, w.ensures.written, back)
