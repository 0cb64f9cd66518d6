use Rattle.std.proofs.Common.{◌≡◌, ◌<◌, ◌≤◌, length, arith}
use Rattle.abc_verify_states.specs.Triples.{IsJoinScope, no_scope}
use Rattle.abc_verify_typing.specs.Typing.{HasOneFlag}
use Rattle.abc_verify_states.proofs.Pairs.{pairs_at}
use Rattle.abc_verify_states.proofs.Threes.{threes_all, threes_next, threes_start}
use Rattle.abc_verify_states.proofs.joining.join_scopes.Goals as goal

pub loop-place-init : goal.loop-place-init
loop-place-init g c = threes_start (IsJoinScope (g.T.Tree.file c.args.tree.now)) c.args.a.now c.args.b.now _ c.truncate.ensures

pub loop-place-preserved : goal.loop-place-preserved
loop-place-preserved g c = threes_next (IsJoinScope (g.T.Tree.file c.args.tree.now)) c.args.a.now c.args.b.now c.loop-place.scopes _ c.loop-place.place no_scope c.join_scopes_at-joined.result (omega arith) c.requires.sized c.loop-place.invariant c.join_scopes_at-joined.ensures c.in_ok-push.ensures.ok

pub returns : goal.returns
returns g c = threes_all (IsJoinScope (g.T.Tree.file c.args.tree.now)) c.args.a.now c.args.b.now _ c.loop-place.place (omega arith) c.requires.sized c.loop-place.invariant

pub join_scopes_at-joined-requires : goal.join_scopes_at-joined-requires
join_scopes_at-joined-requires g c = pairs_at HasOneFlag c.args.a.now c.args.b.now c.loop-place.place no_scope (omega arith) c.requires.flags
