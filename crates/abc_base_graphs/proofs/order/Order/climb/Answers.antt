use Rattle.std.proofs.Common.{arith, ap, length}
use Rattle.abc_base_graphs.proofs.Placing.{climb_begins, climb_next, climb_fits, way_fits}
use Rattle.abc_base_graphs.proofs.Settling.{stands_not, way_to_ends, way_to_next, way_to_none}
use Rattle.abc_base_graphs.proofs.order.Order.climb.Goals as goal

pub loop-node-init : goal.loop-node-init
loop-node-init c = record {
  climb = rw c.requires.empty (climb_begins _ _ _ c.requires.known);
  way_to = rw c.requires.empty (way_to_none _ _ _);
}

pub loop-node-smaller : goal.loop-node-smaller
loop-node-smaller c =
    let i = climb_next _ _ _ _ _ _ c.requires.forest c.loop-node.invariant.climb c.in-Some.ensures.0 c.in-Some.ensures.1 in
    let less = climb_fits _ _ _ _ _ _ i in
    let e = ap length c.in_ok-push.ensures.ok in
    omega (arith, less, e)

pub loop-node-preserved : goal.loop-node-preserved
loop-node-preserved c =
    let at = c.in-Some.ensures in
    record {
      climb = rw (c.base_of-next.ensures, c.in_ok-push.ensures.ok) (climb_next _ _ _ _ _ _ c.requires.forest c.loop-node.invariant.climb at.0 at.1);
      way_to = rw (c.base_of-next.ensures, c.in_ok-push.ensures.ok) (way_to_next _ _ _ _ _ _ c.loop-node.invariant.way_to at.0 (stands_not _ _ _ _ c.requires.placed at.1));
    }

pub returns-clause-settles : goal.returns-clause-settles
returns-clause-settles c =
    let i = c.loop-node.invariant in
    way_to_ends _ _ _ _ _ _ i.way_to c.requires.placed c.in_default.ensures (way_fits _ _ _ i.climb.waiting)
