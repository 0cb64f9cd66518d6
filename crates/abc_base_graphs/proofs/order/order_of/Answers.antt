use Rattle.std.proofs.Common.{arith}
use Rattle.abc_base_graphs.proofs.Settling.{all_settled}
use Rattle.abc_base_graphs.proofs.order.order_of.Goals as goal

pub returns : goal.returns
returns c =
    let i = c.loop-node.invariant in
    all_settled _ _ _ _ i.placed i.all i.is (omega arith)
