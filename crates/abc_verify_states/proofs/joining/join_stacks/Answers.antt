use Rattle.std.proofs.Common.{◌≡◌, ◌-◌, ◌<◌, ◌≤◌, length, suc, arith}
use Rattle.abc_link_names.specs.Kinds.{IsJoin}
use Rattle.abc_link_names.specs.declared.types.Kind.TheVariants.{Any}
use Rattle.abc_verify_states.proofs.Threes.{threes_down, threes_end, threes_whole}
use Rattle.abc_verify_states.proofs.joining.join_stacks.Goals as goal

pub loop-depth-init : goal.loop-depth-init
loop-depth-init g c = (omega arith, threes_end (IsJoin (g.T.Tree.file c.args.tree.now)) c.args.a.now c.args.b.now _ c.len-depth.result (omega arith) c.requires c.clear.ensures)

pub loop-depth-preserved : goal.loop-depth-preserved
loop-depth-preserved g c =
    (omega arith, threes_down (IsJoin (g.T.Tree.file c.args.tree.now)) c.args.a.now c.args.b.now c.loop-depth.stack _ c.loop-depth.depth (c.loop-depth.depth - 1) Any c.join_operands-joined.result (omega arith) (omega arith) c.requires c.loop-depth.invariant.1 c.join_operands-joined.ensures c.in_ok-push.ensures.ok)

pub returns : goal.returns
returns g c = threes_whole (IsJoin (g.T.Tree.file c.args.tree.now)) c.args.a.now c.args.b.now _ c.loop-depth.depth (omega arith) c.loop-depth.invariant.1
