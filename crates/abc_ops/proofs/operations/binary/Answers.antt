use Rattle.abc_ops.proofs.Staying.{in_range_there}
use Rattle.abc_ops.proofs.operations.binary.Goals as goal

pub calculate_values-requires-clause-left : goal.calculate_values-requires-clause-left
calculate_values-requires-clause-left c = in_range_there c.args.l.now c.args.a.now c.args.x c.requires.left

pub calculate_values-requires-clause-right : goal.calculate_values-requires-clause-right
calculate_values-requires-clause-right c = in_range_there c.args.l.now c.args.a.now c.args.y c.requires.right
