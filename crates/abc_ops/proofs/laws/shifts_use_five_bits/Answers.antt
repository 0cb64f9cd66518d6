use Rattle.abc_ops.proofs.Checked.{shifts_by_five}
use Rattle.abc_ops.proofs.laws.shifts_use_five_bits.Goals as goal

pub returns : goal.returns
returns c = shifts_by_five
