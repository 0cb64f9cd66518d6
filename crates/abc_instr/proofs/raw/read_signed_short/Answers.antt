use Rattle.std.proofs.Common.{◌%◌, ◌^◌, ◌<◌, arith}
use Rattle.std.proofs.lemmas.Int.{of_z-to_z}
use Rattle.std.specs.Int.{w16}
use Rattle.abc_base.proofs.Spelling.{number_grows}
use Rattle.abc_instr.proofs.raw.read_signed_short.Goals as goal

pub returns-clause-passes : goal.returns-clause-passes
returns-clause-passes g c =
    let x = c.in_ok-x.x in
    let p = c.in_ok-x.ensures.passes in
    let fits : x % 65536 < 2 ^ 16 = omega arith in
    let same = of_z-to_z w16 (x % 65536) fits in
    rw (c.cast_signed.ensures, same, same) (omega (arith, number_grows (x % 65536) x (omega arith), p.0), p.1)
