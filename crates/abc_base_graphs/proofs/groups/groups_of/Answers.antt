use Rattle.abc_base_graphs.proofs.Grouped.{groups_next}
use Rattle.abc_base_graphs.proofs.groups.groups_of.Goals as goal

pub loop-i-preserved : goal.loop-i-preserved
loop-i-preserved c = groups_next _ _ _ _ c.loop-i-test.true c.loop-i.invariant c.in_ok-add_place.ensures
