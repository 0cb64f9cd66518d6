use Rattle.abc_link_names.specs.Kinds.{IsAtMost}
use Rattle.abc_verify_flow.proofs.Lists.{each_next, read_more}
use Rattle.abc_verify_flow.proofs.below.are_below.Goals as goal

pub loop-place-preserved : goal.loop-place-preserved
loop-place-preserved g c =
    each_next (IsAtMost (g.F.Flow.file c.args.flow.now)) c.args.kinds.now c.args.others.now c.loop-place.place c.value_at.result.now c.value_at-in-loop-place.result.now
    (read_more c.args.kinds.now c.loop-place.place c.value_at.result.now c.value_at.ensures)
    (read_more c.args.others.now c.loop-place.place c.value_at-in-loop-place.result.now c.value_at-in-loop-place.ensures)
    c.loop-place.invariant
    (c.is_below.ensures c.if-not-is_below.false)
