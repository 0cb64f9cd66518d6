use Rattle.abc_session.proofs.Staying.{called_beside, opened_beside, started_beside}
use Rattle.abc_session.proofs.session_laws.sessions_stay_beside.Goals as goal

pub returns-clause-opened : goal.returns-clause-opened
returns-clause-opened c = opened_beside

pub returns-clause-started : goal.returns-clause-started
returns-clause-started c = started_beside

pub returns-clause-called : goal.returns-clause-called
returns-clause-called c = called_beside
