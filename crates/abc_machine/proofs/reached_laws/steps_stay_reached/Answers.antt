use Rattle.abc_machine.proofs.Staying.{reached_on}
use Rattle.abc_machine.proofs.reached_laws.steps_stay_reached.Goals as goal

pub returns : goal.returns
returns c = reached_on
