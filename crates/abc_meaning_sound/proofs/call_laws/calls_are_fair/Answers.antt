use Rattle.abc_meaning_sound.proofs.Fairly.{call_fair}
use Rattle.abc_meaning_sound.proofs.call_laws.calls_are_fair.Goals as goal

pub returns : goal.returns
returns c = call_fair
