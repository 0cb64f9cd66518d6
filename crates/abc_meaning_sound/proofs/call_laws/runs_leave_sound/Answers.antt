use Rattle.abc_meaning_sound.proofs.Left.{runs_left}
use Rattle.abc_meaning_sound.proofs.call_laws.runs_leave_sound.Goals as goal

pub returns : goal.returns
returns c = runs_left
