-- Words, formulas and an input have one outcome.
use Rattle.abc_cli.proofs.OneOutcome.{one_outcome}
use Rattle.abc_cli.proofs.laws.one_outcome.Goals as goal

pub returns : goal.returns
returns c = one_outcome
