use Rattle.std.proofs.Common.{subst}
use Rattle.abc_base_graphs.specs.Orders.{IsDescent}
use Rattle.abc_base_graphs.proofs.Placing.{top_waits, descent_next, keeps_set, keeps_then}
use Rattle.abc_base_graphs.proofs.Settling.{pushed_next}
use Rattle.abc_base_graphs.proofs.order.Order.descend.Goals as goal

pub settle-requires-clause-known : goal.settle-requires-clause-known
settle-requires-clause-known c =
    let d = subst (IsDescent c.args.bases.now c.loop-node.self.places c.args.from) c.in-Some.ensures c.loop-node.invariant.descent in
    (top_waits _ _ _ _ _ d).1

pub loop-node-preserved : goal.loop-node-preserved
loop-node-preserved c =
    let i = c.loop-node.invariant in
    let d = subst (IsDescent c.args.bases.now c.loop-node.self.places c.args.from) c.in-Some.ensures i.descent in
    let is = c.in_ok-settle.ensures.set in
    record {
      placed = c.in_ok-settle.ensures.placed;
      descent = rw is (descent_next _ _ _ _ _ _ i.placed.len d);
      pushed = pushed_next _ _ _ _ _ _ i.pushed c.in-Some.ensures c.in_ok-settle.ensures.pushed;
      keeps = rw is (keeps_then _ _ _ i.keeps (keeps_set _ _ _ (top_waits _ _ _ _ _ d).0));
    }
