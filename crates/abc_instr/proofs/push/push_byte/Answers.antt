use Rattle.std.proofs.Common.{arith}
use Rattle.std.proofs.lemmas.Int.{ints, to_z-of_z}
use Rattle.std.specs.Int.{w8}
use Rattle.abc_instr.specs.Reading.{done_in}
use Rattle.abc_instr.proofs.Fronts.{byte_front}
use Rattle.abc_instr.proofs.push.push_byte.Goals as goal

pub returns : goal.returns
returns c =
    let z = c.cast_signed-x.result in
    let same = to_z-of_z w8 z (omega (arith, ints, c.cast_signed-x.type_inv)) in
    byte_front done_in c.args.bytes.now z _ _ c.requires.room c.requires.form (omega (arith, ints, c.cast_signed-x.type_inv)) (omega (arith, ints, c.cast_signed-x.type_inv)) c.cast_signed-x.ensures (omega (arith, c.type_inv.bytes 1)) (rw same at c.in_ok-push.ensures.ok)
