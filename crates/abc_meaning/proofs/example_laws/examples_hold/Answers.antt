use Rattle.abc_meaning.proofs.Examples.{run_examples, stuck_examples, wait_examples}
use Rattle.abc_meaning.proofs.example_laws.examples_hold.Goals as goal

pub returns-clause-runs : goal.returns-clause-runs
returns-clause-runs c = run_examples

pub returns-clause-waits : goal.returns-clause-waits
returns-clause-waits c = wait_examples

pub returns-clause-sticks : goal.returns-clause-sticks
returns-clause-sticks c = stuck_examples
