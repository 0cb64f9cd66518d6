use Rattle.std.proofs.Common.{arith}
use Rattle.abc_base.specs.Numbers.{SpellsNumber}
use Rattle.abc_instr.specs.Scanning.{plain_bytes}
use Rattle.abc_instr.proofs.Fronts.{all_after, one_front, put_after}
use Rattle.abc_instr.proofs.front.put_one_front.Goals as goal

pub returns : goal.returns
returns c =
    let front = c.in-Some.ensures in
    one_front plain_bytes c.args.bytes.now c.in-Some.n c.in-Some.count _ _ c.requires.room c.requires.form (all_after SpellsNumber 1 _ _ c.args.bytes.now front.spelled) front.few.0 front.few.1 (omega (arith, c.if-n.false))
    (put_after _ _ _ _ _ c.in_ok-put_u8.ensures c.in_ok-put_u30.ensures)
