use Rattle.abc_meaning_sound.proofs.Fared.{acts_fair}
use Rattle.abc_meaning_sound.proofs.progress_laws.acts_are_fair.Goals as goal

pub returns : goal.returns
returns c = acts_fair
