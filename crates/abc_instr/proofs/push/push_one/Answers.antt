use Rattle.std.proofs.Common.{arith}
use Rattle.abc_base.specs.Numbers.{SpellsNumber}
use Rattle.abc_instr.specs.Reading.{done_in}
use Rattle.abc_instr.proofs.Fronts.{all_after, one_front}
use Rattle.abc_instr.proofs.push.push_one.Goals as goal

pub returns : goal.returns
returns c =
    let front = c.in-Some.ensures in
    one_front done_in c.args.bytes.now c.in-Some.n c.in-Some.count _ _ c.requires.room c.requires.form (all_after SpellsNumber 1 _ _ c.args.bytes.now front.spelled) front.few.0 front.few.1 (omega (arith, c.if-n.false)) c.in_ok-push.ensures.ok
