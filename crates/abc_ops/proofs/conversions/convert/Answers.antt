use Rattle.abc_ops.proofs.Staying.{in_range_there}
use Rattle.abc_ops.proofs.conversions.convert.Goals as goal

pub to_int-requires : goal.to_int-requires
to_int-requires c = in_range_there c.args.l.now c.args.a.now c.args.v c.requires.value

pub to_uint-requires : goal.to_uint-requires
to_uint-requires c = in_range_there c.args.l.now c.args.a.now c.args.v c.requires.value

pub to_number-requires : goal.to_number-requires
to_number-requires c = in_range_there c.args.l.now c.args.a.now c.args.v c.requires.value
