use Rattle.abc_run_finish.proofs.Locals.{IsRoomBelow}
use Rattle.abc_run_finish.proofs.opening.most_locals.Given as goal

abbrev pub invariant-loop-method : goal.invariant-loop-method
invariant-loop-method l = IsRoomBelow l.methods l.method-index l.most
