use Rattle.std.proofs.Common.{refl, sym, arith}
use Rattle.abc_instr.proofs.Filling.{all_taken, one_more_taken, taken_within}
use Rattle.abc_instr.proofs.pieces.Pieces.take.Goals as goal

pub add-requires : goal.add-requires
add-requires c =
    omega (arith, taken_within c.args.code.now c.loop-i.i c.loop-i.here c.loop-i.self c.get.result.now (omega (arith, c.loop-i-test.true, c.len-i-end.ensures)) (sym c.get.ensures) c.loop-i.invariant, c.requires.short)

pub loop-i-preserved : goal.loop-i-preserved
loop-i-preserved c =
    one_more_taken c.args.code.now c.loop-i.i c.loop-i.here c.in_ok-here.here c.loop-i.self c.add.new.self c.get.result.now (omega (arith, c.loop-i-test.true, c.len-i-end.ensures)) (sym c.get.ensures) c.loop-i.invariant
    c.in_ok-here.ensures.end c.in_ok-here.ensures.plain c.in_ok-here.ensures.gaps c.in_ok-here.ensures.starts

pub returns : goal.returns
returns c = all_taken c.args.code.now c.loop-i.i c.loop-i.here c.loop-i.self _ (omega (arith, c.loop-i-test.false, c.len-i-end.ensures)) c.loop-i.invariant refl refl c.in_ok-push.ensures.ok
