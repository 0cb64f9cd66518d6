use Rattle.abc_meaning_sound.proofs.Never.{the_first_is_sound}
use Rattle.abc_meaning_sound.proofs.run_laws.runs_begin_sound.Goals as goal

pub returns : goal.returns
returns c = the_first_is_sound
