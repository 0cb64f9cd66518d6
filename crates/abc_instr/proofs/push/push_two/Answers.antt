use Rattle.std.proofs.Common.{◌+◌, arith}
use Rattle.abc_base.specs.Numbers.{SpellsNumber}
use Rattle.abc_instr.specs.Reading.{done_in}
use Rattle.abc_instr.proofs.Fronts.{all_after, two_front}
use Rattle.abc_instr.proofs.push.push_two.Goals as goal

pub returns : goal.returns
returns c =
    let first = c.in-Some.ensures in
    let second = c.in-Some-front_number.ensures in
    two_front done_in c.args.bytes.now c.in-Some.n c.in-Some-front_number.m c.in-Some.first c.in-Some-front_number.second _ _ c.requires.room c.requires.form
    (all_after SpellsNumber 1 _ _ c.args.bytes.now first.spelled) first.few.0 first.few.1 (omega (arith, c.if-n.false)) (all_after SpellsNumber (1 + c.in-Some.first) _ _ c.args.bytes.now second.spelled) second.few.0 second.few.1 (omega (arith, c.if-m.false)) c.in_ok-push.ensures.ok
