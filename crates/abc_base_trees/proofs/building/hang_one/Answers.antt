use Rattle.std.proofs.Common.{sym}
use Rattle.abc_base_trees.proofs.Adding.{one_more}
use Rattle.abc_base_trees.proofs.building.hang_one.Goals as goal

pub returns-in_ok-hang-in-Some : goal.returns-in_ok-hang-in-Some
returns-in_ok-hang-in-Some c = one_more c.args.ranges.now c.args.number c.in-Some.range c.args.stabs.now c.hang.new.self c.leaf-from.result c.leaf-to.result c.requires (sym c.in-Some.ensures) c.leaf-from.ensures.is c.leaf-to.ensures.is c.in_ok-hang-in-Some.ensures
