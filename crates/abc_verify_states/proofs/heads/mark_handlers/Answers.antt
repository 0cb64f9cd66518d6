use Rattle.std.proofs.Common.{arith}
use Rattle.abc_verify_states.proofs.Marked.{handlers_next}
use Rattle.abc_verify_states.proofs.heads.mark_handlers.Goals as goal

pub loop-handler-preserved : goal.loop-handler-preserved
loop-handler-preserved c = handlers_next c.args.handlers.now c.loop-handler.handler-index _ _ _ _ (omega arith) c.loop-handler.invariant c.mark_handler.ensures
