use Rattle.std.proofs.Common.{subst}
use Rattle.std.specs.Result.{MatchResult}
use Rattle.abc_verify_flow.specs.Walking.{RefusedBy}
use Rattle.abc_verify_typing.specs.Routines.{Routine}
use Rattle.abc_verify_typing.specs.Typing.{HasTyping}
use Rattle.abc_verify_states.specs.Frames.{routine_of_frame}
use Rattle.abc_verify.proofs.Shortness.{routine_short}
use Rattle.abc_verify.proofs.checking.check_body.Goals as goal

pub check_frame-requires : goal.check_frame-requires
check_frame-requires c = record { linked = c.requires.linked; short = routine_short c.args.linked.now c.args.body (routine_of_frame c.in_ok-frame.frame) c.requires.linked c.requires.inside c.in_ok-frame.ensures }

pub returns : goal.returns
returns c = subst (λ (r : Routine). MatchResult c.check_frame.result (λ x. HasTyping c.args.linked.now r) (λ e. RefusedBy c.args.linked.now r e)) c.in_ok-frame.ensures c.check_frame.ensures
