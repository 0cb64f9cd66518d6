use Rattle.std.proofs.Common.{◌↔◌}
use Rattle.abc_link_names.specs.Tree.{IsBelow}
use Rattle.abc_kinds.proofs.is_below.Given as goal

abbrev pub invariant-loop-at : goal.invariant-loop-at
invariant-loop-at g l = IsBelow (g.T.Tree.file l.tree) l.fn.layout.0 l.other.0 ↔ IsBelow (g.T.Tree.file l.tree) l.at.0 l.other.0

abbrev pub decreases-loop-at : goal.decreases-loop-at
decreases-loop-at g l = l.at.0
