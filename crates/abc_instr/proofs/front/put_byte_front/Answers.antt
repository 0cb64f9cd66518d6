use Rattle.std.proofs.Common.{arith}
use Rattle.std.proofs.lemmas.Int.{ints, to_z-of_z}
use Rattle.std.specs.Int.{w8}
use Rattle.abc_instr.specs.Scanning.{plain_bytes}
use Rattle.abc_instr.proofs.Fronts.{byte_front, put_after}
use Rattle.abc_instr.proofs.front.put_byte_front.Goals as goal

pub returns : goal.returns
returns c =
    let z = c.cast_signed-x.result in
    let bits = rw (to_z-of_z w8 z (omega (arith, ints, c.cast_signed-x.type_inv))) at c.cast_unsigned.ensures in
    byte_front plain_bytes c.args.bytes.now z _ _ c.requires.room c.requires.form (omega (arith, ints, c.cast_signed-x.type_inv)) (omega (arith, ints, c.cast_signed-x.type_inv)) c.cast_signed-x.ensures (omega (arith, c.type_inv.bytes 1))
    (put_after _ _ _ _ _ c.in_ok-put_u8.ensures (rw bits at c.in_ok-put_u8-2.ensures))
