use Rattle.abc_meaning_sound.proofs.Never.{stays_sound}
use Rattle.abc_meaning_sound.proofs.run_laws.steps_stay_sound.Goals as goal

pub returns : goal.returns
returns c = stays_sound
