use Rattle.std.proofs.Common.{◌+◌, ◌++◌, ◌∷◌, [], get_or, arith}
use Rattle.abc_base.specs.Numbers.{SpellsNumber, number_bytes}
use Rattle.abc_instr.specs.Scanning.{plain_bytes}
use Rattle.abc_instr.proofs.Fronts.{all_after, put_after, two_front}
use Rattle.abc_instr.proofs.front.put_two_front.Goals as goal

pub returns : goal.returns
returns c =
    let first = c.in-Some.ensures in
    let second = c.in-Some-front_number.ensures in
    let n = number_bytes c.in-Some.n in
    let m = number_bytes c.in-Some-front_number.m in
    two_front plain_bytes c.args.bytes.now c.in-Some.n c.in-Some-front_number.m c.in-Some.first c.in-Some-front_number.second _ _ c.requires.room c.requires.form
    (all_after SpellsNumber 1 _ _ c.args.bytes.now first.spelled) first.few.0 first.few.1 (omega (arith, c.if-n.false)) (all_after SpellsNumber (1 + c.in-Some.first) _ _ c.args.bytes.now second.spelled) second.few.0 second.few.1 (omega (arith, c.if-m.false))
    (put_after c.args.plain.now.items c.put_u8.new.out.items c.put_u30-2.new.out.items (get_or c.args.bytes.now 0 0 ∷ []) (n ++ m) c.in_ok-put_u8.ensures
    (put_after c.put_u8.new.out.items c.put_u30.new.out.items c.put_u30-2.new.out.items n m c.in_ok-put_u30.ensures c.in_ok-put_u30-2.ensures))
