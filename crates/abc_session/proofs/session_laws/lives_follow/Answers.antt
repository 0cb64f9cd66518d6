use Rattle.abc_session.proofs.Lived.{lives_follow}
use Rattle.abc_session.proofs.session_laws.lives_follow.Goals as goal

pub returns : goal.returns
returns c = lives_follow
