use Rattle.std.proofs.Common.{◌≤◌, drop, length}
use Rattle.abc_link_names.specs.Kinds.{IsJoin}
use Rattle.abc_verify_states.specs.Triples.{Each3}
use Rattle.abc_verify_states.proofs.joining.join_stacks.Given as goal

abbrev pub invariant-loop-depth : goal.invariant-loop-depth
invariant-loop-depth g l = (l.depth ≤ length l.a) × Each3 (IsJoin (g.T.Tree.file l.tree)) (drop l.depth l.a) (drop l.depth l.b) l.stack

abbrev pub decreases-loop-depth : goal.decreases-loop-depth
decreases-loop-depth g l = l.depth
