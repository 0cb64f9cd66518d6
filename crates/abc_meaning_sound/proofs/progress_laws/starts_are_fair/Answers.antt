use Rattle.abc_meaning_sound.proofs.Fared.{starts_fair}
use Rattle.abc_meaning_sound.proofs.progress_laws.starts_are_fair.Goals as goal

pub returns : goal.returns
returns c = starts_fair
