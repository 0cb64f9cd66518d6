use Rattle.abc_meaning_sound.proofs.Given.{calls_give}
use Rattle.abc_meaning_sound.proofs.call_laws.calls_give_there.Goals as goal

pub returns : goal.returns
returns c = calls_give
