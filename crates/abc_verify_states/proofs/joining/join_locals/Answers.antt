use Rattle.std.proofs.Common.{◌≡◌, ◌<◌, ◌≤◌, length, arith}
use Rattle.abc_link_names.specs.Kinds.{IsJoin}
use Rattle.abc_link_names.specs.declared.types.Kind.TheVariants.{Any}
use Rattle.abc_verify_states.proofs.Threes.{threes_all, threes_next, threes_start}
use Rattle.abc_verify_states.proofs.joining.join_locals.Goals as goal

pub loop-place-init : goal.loop-place-init
loop-place-init g c = threes_start (IsJoin (g.T.Tree.file c.args.tree.now)) c.args.a.now c.args.b.now _ c.truncate.ensures

pub loop-place-preserved : goal.loop-place-preserved
loop-place-preserved g c = threes_next (IsJoin (g.T.Tree.file c.args.tree.now)) c.args.a.now c.args.b.now c.loop-place.locals _ c.loop-place.place Any c.join_locals_at-joined.result (omega arith) c.requires c.loop-place.invariant c.join_locals_at-joined.ensures c.in_ok-push.ensures.ok

pub returns : goal.returns
returns g c = threes_all (IsJoin (g.T.Tree.file c.args.tree.now)) c.args.a.now c.args.b.now _ c.loop-place.place (omega arith) c.requires c.loop-place.invariant
