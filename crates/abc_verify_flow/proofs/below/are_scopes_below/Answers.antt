use Rattle.abc_verify_typing.specs.Typing.{ScopeLe}
use Rattle.abc_verify_flow.proofs.Lists.{each_next, read_more}
use Rattle.abc_verify_flow.proofs.below.are_scopes_below.Goals as goal

pub loop-place-preserved : goal.loop-place-preserved
loop-place-preserved g c =
    each_next (ScopeLe (g.F.Flow.file c.args.flow.now)) c.args.scopes.now c.args.others.now c.loop-place.place c.value_at.result.now c.value_at-in-loop-place.result.now
    (read_more c.args.scopes.now c.loop-place.place c.value_at.result.now c.value_at.ensures)
    (read_more c.args.others.now c.loop-place.place c.value_at-in-loop-place.result.now c.value_at-in-loop-place.ensures)
    c.loop-place.invariant
    (c.is_scope_below.ensures c.if-not-is_scope_below.false)
