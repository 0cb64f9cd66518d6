use Rattle.abc_file_types.proofs.Examples.{refused, spelled}
use Rattle.abc_file_types.proofs.example_laws.examples_hold.Goals as goal

pub returns-clause-spelled : goal.returns-clause-spelled
returns-clause-spelled c = spelled

pub returns-clause-refused : goal.returns-clause-refused
returns-clause-refused c = refused
