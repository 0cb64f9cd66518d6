use Rattle.abc_ops.proofs.Staying.{in_range_there}
use Rattle.abc_ops.proofs.operations.unary.Goals as goal

pub type_name-requires : goal.type_name-requires
type_name-requires c = (c.args.l.now, c.requires.value)

pub calculate_value-requires : goal.calculate_value-requires
calculate_value-requires c = in_range_there c.args.l.now c.args.a.now c.args.v c.requires.value
