use Rattle.abc_session.proofs.SessionFollowing.{calls_follow}
use Rattle.abc_session.proofs.session_laws.calls_follow.Goals as goal

pub returns : goal.returns
returns c = calls_follow
