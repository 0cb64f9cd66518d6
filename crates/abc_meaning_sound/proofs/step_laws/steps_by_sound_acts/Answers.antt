use Rattle.abc_meaning_sound.proofs.Stepping.{step_sound}
use Rattle.abc_meaning_sound.proofs.step_laws.steps_by_sound_acts.Goals as goal

pub returns : goal.returns
returns c = λ p typings q file ops typed groups news z. step_sound p file ops typings typed groups news q z
