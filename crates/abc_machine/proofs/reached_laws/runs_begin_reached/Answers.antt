use Rattle.abc_machine.proofs.Beginning.{reached_first}
use Rattle.abc_machine.proofs.reached_laws.runs_begin_reached.Goals as goal

pub returns : goal.returns
returns c = reached_first
