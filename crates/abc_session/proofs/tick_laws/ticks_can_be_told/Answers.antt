use Rattle.abc_session.proofs.Telling.{calls_told}
use Rattle.abc_session.proofs.tick_laws.ticks_can_be_told.Goals as goal

pub returns : goal.returns
returns c = calls_told c.ends_can_be_told.ensures.never_stuck c.ends_can_be_told.ensures.placed c.calls_can_be_told.ensures.runs c.calls_can_be_told.ensures.calls
