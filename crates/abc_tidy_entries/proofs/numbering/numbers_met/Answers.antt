use Rattle.std.proofs.Common.{◌<◌, length, get_or, ap, subst}
use Rattle.abc_tidy_entries.proofs.Numbered.{met_next}
use Rattle.abc_tidy_entries.proofs.numbering.numbers_met.Goals as goal

pub loop-node-preserved : goal.loop-node-preserved
loop-node-preserved c =
    let xs = c.as_slice-node-items.result.now in
    met_next c.args.counts.now c.args.seen.now c.loop-node.counters.met c.number.new.self.met c.loop-node.numbers c.push.new.self c.loop-node.node-index (get_or xs c.loop-node.node-index 0) c.in_ok-number.number
    c.loop-node.invariant (subst (λ ys. c.loop-node.node-index < length ys) c.as_slice-node-items.ensures c.loop-node-test.true) (ap (λ ys. get_or ys c.loop-node.node-index 0) c.as_slice-node-items.ensures)
    c.in_ok-number.ensures.is c.in_ok-number.ensures.met c.in_ok-push.ensures.ok
