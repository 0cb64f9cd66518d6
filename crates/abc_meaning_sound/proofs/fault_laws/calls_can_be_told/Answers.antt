use Rattle.abc_meaning_sound.proofs.Calling.{calls_told, runs_told}
use Rattle.abc_meaning_sound.proofs.fault_laws.calls_can_be_told.Goals as goal

pub returns-clause-runs : goal.returns-clause-runs
returns-clause-runs c = runs_told c.runs_leave_sound.ensures

pub returns-clause-calls : goal.returns-clause-calls
returns-clause-calls c = calls_told c.calls_leave_sound.ensures
