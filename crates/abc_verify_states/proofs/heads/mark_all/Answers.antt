use Rattle.std.proofs.Common.{arith}
use Rattle.abc_verify_states.proofs.Marked.{marks_next}
use Rattle.abc_verify_states.proofs.heads.mark_all.Goals as goal

pub loop-place-preserved : goal.loop-place-preserved
loop-place-preserved c = marks_next c.args.places.now c.loop-place.place-index _ _ _ _ (omega arith) c.loop-place.invariant c.mark.ensures
