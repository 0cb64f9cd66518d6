use Rattle.std.proofs.Common.{sym}
use Rattle.abc_verify_states.specs.Frames.{routine_of_frame}
use Rattle.abc_verify.proofs.checking.check_frame.Goals as goal

pub check_flow-requires-clause-heads : goal.check_flow-requires-clause-heads
check_flow-requires-clause-heads c = c.in_ok-heads.ensures (routine_of_frame c.args.frame.now) (sym c.as_slice-code.ensures) (sym c.as_slice-handlers.ensures)
