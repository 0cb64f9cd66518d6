use Rattle.std.proofs.Common.{take}
use Rattle.abc_verify_states.specs.Triples.{Each3, IsJoinScope}
use Rattle.abc_verify_states.proofs.joining.join_scopes.Given as goal

abbrev pub invariant-loop-place : goal.invariant-loop-place
invariant-loop-place g l = Each3 (IsJoinScope (g.T.Tree.file l.tree)) (take l.place l.a) (take l.place l.b) l.scopes
