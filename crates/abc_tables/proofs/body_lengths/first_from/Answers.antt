use Rattle.std.proofs.Common.{◌+◌, ◌-◌, ◌^◌, min, arith, below_more, ap, ◌∙◌, ℕ}
use Rattle.abc_tables.proofs.Places.{passed, stopped}
use Rattle.abc_tables.proofs.body_lengths.first_from.Goals as goal

pub returns-then-limit-here : goal.returns-then-limit-here
returns-then-limit-here c =
    stopped c.args.code.now c.args.limit c.loop-i.i c.loop-i.here (omega arith) c.loop-i.invariant.0 c.loop-i.invariant.1 c.if-limit-here.true

pub loop-i-preserved : goal.loop-i-preserved
loop-i-preserved c =
    let items = c.as_slice-instr-items.ensures in
    let next = passed c.args.code.now c.loop-i.i c.loop-i.here c.instr-item.result (rw items at c.loop-i-test.true) (rw items at c.instr-item.is) c.loop-i.invariant.0 in (
      c.saturating_add-here.ensures ∙ ap (λ (n : ℕ). min (c.loop-i.here + n) (2 ^ 64 - 1)) c.instr_len.ensures ∙ next,
      below_more _ _ c.loop-i.invariant.1 (omega (arith, c.loop-i.invariant.0, c.if-limit-here.false)),
    )
