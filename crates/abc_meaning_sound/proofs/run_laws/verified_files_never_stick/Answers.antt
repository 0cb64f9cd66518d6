use Rattle.abc_meaning_sound.proofs.Never.{is_never_stuck}
use Rattle.abc_meaning_sound.proofs.run_laws.verified_files_never_stick.Goals as goal

pub returns : goal.returns
returns c = is_never_stuck
