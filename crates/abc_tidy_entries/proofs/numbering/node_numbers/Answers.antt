use Rattle.abc_tidy_entries.proofs.Numbered.{node_next}
use Rattle.abc_tidy_entries.proofs.numbering.node_numbers.Goals as goal

pub loop-node-preserved : goal.loop-node-preserved
loop-node-preserved c =
    node_next c.args.classes.now.classes c.args.places.now c.args.numbers.now c.loop-node.all c.push.new.self c.loop-node.node c.number_of_node-number.result
    c.loop-node.invariant c.number_of_node-number.ensures c.in_ok-push.ensures.ok
