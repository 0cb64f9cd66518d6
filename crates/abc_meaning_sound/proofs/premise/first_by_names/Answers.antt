use Rattle.abc_meaning_sound.proofs.NamedFrames.{same_first}
use Rattle.abc_meaning_sound.proofs.premise.first_by_names.Goals as goal

pub returns : goal.returns
returns c = same_first
