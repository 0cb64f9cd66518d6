use Rattle.abc_meaning.proofs.Stepping.{steps_append}
use Rattle.abc_meaning.proofs.output_laws.steps_append.Goals as goal

pub returns : goal.returns
returns c = steps_append
