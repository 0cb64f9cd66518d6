use Rattle.abc_meaning.proofs.Unwinding.{throws_stay_sound}
use Rattle.abc_meaning.proofs.throw_laws.throws_stay_sound.Goals as goal

pub returns : goal.returns
returns c = throws_stay_sound
