use Rattle.std.proofs.Common.{take}
use Rattle.abc_base_graphs.specs.Groups.{Groups}
use Rattle.abc_base_graphs.proofs.groups.groups_of.Given as goal

abbrev pub invariant-loop-i : goal.invariant-loop-i
invariant-loop-i l = Groups l.groups (take l.i l.keys)
