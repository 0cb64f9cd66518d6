use Rattle.abc_meaning_sound.proofs.Law.{steps_stay_sound}
use Rattle.abc_meaning_sound.proofs.object_laws.acts_stay_sound.Goals as goal

pub returns : goal.returns
returns c = steps_stay_sound
