use Rattle.abc_base_graphs.proofs.Placing.{placed_next}
use Rattle.abc_base_graphs.proofs.order.Order.settle.Goals as goal

pub returns-clause-placed : goal.returns-clause-placed
returns-clause-placed c =
    let r = c.requires in
    rw (c.set.ensures, c.in_ok-push.ensures.ok, c.len-place.ensures) (placed_next _ _ _ _ r.placed r.known r.unplaced r.free)
