use Rattle.abc_meaning_sound.proofs.Left.{calls_left}
use Rattle.abc_meaning_sound.proofs.call_laws.calls_leave_sound.Goals as goal

pub returns : goal.returns
returns c = calls_left
