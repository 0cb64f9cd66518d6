use Rattle.std.proofs.Common.{refl}
use Rattle.std.proofs.lemmas.Result.{err_from_is_err_and}
use Rattle.abc_instr.proofs.Filling.{fills_last, fills_on, kept_on, kept_with}
use Rattle.abc_instr.proofs.pieces.put_filled.Goals as goal

pub loop-gap-preserved : goal.loop-gap-preserved
loop-gap-preserved c = record {
  sum =
      fills_on c.args.starts.now c.args.code.now c.args.plain.now c.loop-gap.out.items c.put_range.new.out.items c.put_gap.new.out.items _ c.loop-gap.from c.loop-gap.gap-index c.args.gaps.now _
      c.loop-gap-test.true c.loop-gap.invariant.sum c.in_ok-put_range.ensures c.in_ok-put_gap.ensures;
  front = kept_with c.args.out.now.items c.put_range.new.out.items c.put_gap.new.out.items _ (kept_with c.args.out.now.items c.loop-gap.out.items c.put_range.new.out.items _ c.loop-gap.invariant.front c.in_ok-put_range.ensures) c.in_ok-put_gap.ensures;
}

pub returns : goal.returns
returns c =
    fills_last c.args.starts.now c.args.code.now c.args.plain.now c.loop-gap.out.items c.put_range-2.new.out.items _ c.loop-gap.from c.loop-gap.gap-index _ c.args.gaps.now
    c.loop-gap-test.false refl c.loop-gap.invariant.sum c.in_ok-put_range-2.ensures

pub returns-in_err-put_gap : goal.returns-in_err-put_gap
returns-in_err-put_gap c =
    let p = err_from_is_err_and c.from_residual-in_err-put_gap.result c.from_residual-in_err-put_gap.ensures.1 in
    rw p.1
    (kept_on c.args.out.now.items c.put_range.new.out.items c.put_gap.new.out.items (kept_with c.args.out.now.items c.loop-gap.out.items c.put_range.new.out.items _ c.loop-gap.invariant.front c.in_ok-put_range.ensures)
    c.in_err-put_gap.ensures)
