use Rattle.abc_ops.proofs.Staying.{in_range_there, readable_there}
use Rattle.abc_ops.proofs.compares.compare_as.Goals as goal

pub equal-requires-clause-left : goal.equal-requires-clause-left
equal-requires-clause-left c = readable_there c.args.l.now c.args.a.now c.args.x c.requires.left

pub equal-requires-clause-right : goal.equal-requires-clause-right
equal-requires-clause-right c = readable_there c.args.l.now c.args.a.now c.args.y c.requires.right

pub strictly_equal-requires-clause-left : goal.strictly_equal-requires-clause-left
strictly_equal-requires-clause-left c = readable_there c.args.l.now c.args.a.now c.args.x c.requires.left

pub strictly_equal-requires-clause-right : goal.strictly_equal-requires-clause-right
strictly_equal-requires-clause-right c = readable_there c.args.l.now c.args.a.now c.args.y c.requires.right

pub are_ordered-requires-clause-left_text : goal.are_ordered-requires-clause-left_text
are_ordered-requires-clause-left_text c = readable_there c.args.l.now c.args.a.now c.args.x c.requires.left

pub are_ordered-requires-clause-right_text : goal.are_ordered-requires-clause-right_text
are_ordered-requires-clause-right_text c = readable_there c.args.l.now c.args.a.now c.args.y c.requires.right

pub are_ordered-requires-clause-left : goal.are_ordered-requires-clause-left
are_ordered-requires-clause-left c = in_range_there c.args.l.now c.args.a.now c.args.x c.requires.left

pub are_ordered-requires-clause-right : goal.are_ordered-requires-clause-right
are_ordered-requires-clause-right c = in_range_there c.args.l.now c.args.a.now c.args.y c.requires.right
