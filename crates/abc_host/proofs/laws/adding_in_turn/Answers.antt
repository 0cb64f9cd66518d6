use Rattle.abc_host.proofs.InTurn.{add_in_turn}
use Rattle.abc_host.proofs.laws.adding_in_turn.Goals as goal

pub returns : goal.returns
returns g c = add_in_turn _
