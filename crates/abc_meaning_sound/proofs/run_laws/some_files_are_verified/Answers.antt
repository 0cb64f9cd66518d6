use Rattle.abc_meaning_sound.proofs.Witness.{some_verified}
use Rattle.abc_meaning_sound.proofs.run_laws.some_files_are_verified.Goals as goal

pub returns : goal.returns
returns c = some_verified
