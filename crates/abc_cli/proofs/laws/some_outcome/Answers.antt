-- Words, formulas and an input have an outcome.
use Rattle.abc_cli.proofs.SomeOutcome.{some_outcome}
use Rattle.abc_cli.proofs.laws.some_outcome.Goals as goal

pub returns : goal.returns
returns c = some_outcome c.verified_files_never_stick.ensures c.ticks_can_be_told.ensures
