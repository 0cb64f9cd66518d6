use Rattle.abc_ops.proofs.Checked.{orders_opposed}
use Rattle.abc_ops.proofs.laws.orders_are_opposed.Goals as goal

pub returns : goal.returns
returns c = orders_opposed
