use Rattle.abc_meaning.proofs.Counted.{few_steps}
use Rattle.abc_meaning.proofs.log_laws.a_run_has_few_steps.Goals as goal

pub returns : goal.returns
returns c = few_steps
