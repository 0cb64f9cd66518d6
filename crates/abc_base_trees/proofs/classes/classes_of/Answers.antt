use Rattle.std.proofs.Common.{◌<◌, length, get_or, ap, subst}
use Rattle.abc_base_trees.proofs.Settled.{none_settled, only_all, only_next, settled_next}
use Rattle.abc_base_trees.proofs.classes.classes_of.Goals as goal

pub loop-node-init : goal.loop-node-init
loop-node-init c = record {
  valid = c.in_ok-classes.ensures.valid;
  distinct = c.in_ok-classes.ensures.distinct;
  only = λ y h. absurd (c.in_ok-classes.ensures.none y h);
  settled = λ behind all. none_settled c.in_ok-classes.classes.classes c.args.order.now;
}

pub returns-clause-only : goal.returns-clause-only
returns-clause-only c = λ y h. only_all c.args.order.now c.loop-node.node-index y (c.loop-node.invariant.only y h)

pub loop-node-preserved : goal.loop-node-preserved
loop-node-preserved c =
    let inv = c.loop-node.invariant in
    let i = c.loop-node.node-index in
    let items = c.as_slice-node-items.ensures in
    record {
      valid = c.in_ok-settle.ensures.valid;
      distinct = c.in_ok-settle.ensures.distinct;
      only = only_next c.args.graph.now c.args.order.now c.loop-node.classes.classes c.settle.new.self.classes i (get_or c.as_slice-node-items.result.now i 0) inv.only
          (subst (λ ys. i < length ys) items c.loop-node-test.true) (ap (λ ys. get_or ys i 0) items) c.in_ok-settle.ensures.gains;
      settled = λ behind all. settled_next c.args.graph.now c.args.order.now c.loop-node.classes.classes c.settle.new.self.classes i (get_or c.as_slice-node-items.result.now i 0) behind all (inv.settled behind all)
          (subst (λ ys. i < length ys) items c.loop-node-test.true) (ap (λ ys. get_or ys i 0) items) c.in_ok-settle.ensures.gains;
    }
