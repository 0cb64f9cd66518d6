use Rattle.abc_machine.proofs.Example.{some_begins}
use Rattle.abc_machine.proofs.reached_laws.some_runs_begin.Goals as goal

pub returns : goal.returns
returns c = some_begins
