use Rattle.std.proofs.Common.{sym}
use Rattle.abc_link_rules.proofs.SidedRepeats.{if_ok_tells, none_tell}
use Rattle.abc_link_rules.proofs.same_name.sides_told.Goals as goal

pub returns-then-has_sides : goal.returns-then-has_sides
returns-then-has_sides c = if_ok_tells c.args.keys.now c.first_sided.result c.first_sided.ensures

pub returns-else-has_sides : goal.returns-else-has_sides
returns-else-has_sides c = none_tell c.args.keys.now c.new.result c.new.ensures.empty (c.has_sides.ensures c.if-has_sides.false)
