use Rattle.abc_meaning.proofs.Stepping.{runs_append}
use Rattle.abc_meaning.proofs.output_laws.runs_append.Goals as goal

pub returns : goal.returns
returns c = runs_append
