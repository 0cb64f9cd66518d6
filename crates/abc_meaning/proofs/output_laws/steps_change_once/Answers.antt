use Rattle.abc_meaning.proofs.Stepping.{steps_change}
use Rattle.abc_meaning.proofs.output_laws.steps_change_once.Goals as goal

pub returns : goal.returns
returns c = steps_change
