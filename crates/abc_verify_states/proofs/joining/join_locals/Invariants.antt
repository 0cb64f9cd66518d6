use Rattle.std.proofs.Common.{take}
use Rattle.abc_link_names.specs.Kinds.{IsJoin}
use Rattle.abc_verify_states.specs.Triples.{Each3}
use Rattle.abc_verify_states.proofs.joining.join_locals.Given as goal

abbrev pub invariant-loop-place : goal.invariant-loop-place
invariant-loop-place g l = Each3 (IsJoin (g.T.Tree.file l.tree)) (take l.place l.a) (take l.place l.b) l.locals
