use Rattle.abc_meaning_sound.proofs.Makers.{makers_given}
use Rattle.abc_meaning_sound.proofs.run_laws.bases_have_makers.Goals as goal

pub returns : goal.returns
returns c = makers_given
