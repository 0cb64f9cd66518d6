use Rattle.abc_meaning_sound.proofs.Called.{call_begins}
use Rattle.abc_meaning_sound.proofs.call_laws.calls_begin_sound.Goals as goal

pub returns : goal.returns
returns c = call_begins
