use Rattle.abc_meaning_sound.proofs.Law.{runs_never_stick}
use Rattle.abc_meaning_sound.proofs.object_laws.runs_never_stick.Goals as goal

pub returns : goal.returns
returns c = runs_never_stick
