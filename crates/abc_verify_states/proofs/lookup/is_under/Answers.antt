use Rattle.abc_verify_states.proofs.Slots.{reaches_below}
use Rattle.abc_verify_states.proofs.lookup.is_under.Goals as goal

pub returns : goal.returns
returns c = reaches_below c.args.linked.now c.args.layout.0 c.args.other.0 c.is_below.result c.linked_law.ensures c.is_below.ensures
