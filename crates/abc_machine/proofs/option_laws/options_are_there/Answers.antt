use Rattle.abc_machine.proofs.There.{there}
use Rattle.abc_machine.proofs.option_laws.options_are_there.Goals as goal

pub returns : goal.returns
returns c = there
