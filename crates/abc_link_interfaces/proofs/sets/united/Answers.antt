use Rattle.std.proofs.Common.{◌∙◌}
use Rattle.abc_link_interfaces.proofs.Uniting.{united}
use Rattle.abc_link_interfaces.proofs.sets.united.Goals as goal

pub returns : goal.returns
returns c = united c.args.abc.now c.args.graph.now c.args.sets.now c.args.class _ _ _ c.requires.graph c.requires.sets c.requires.there c.targets_of.ensures c.in_ok-list.ensures (c.in_ok-set.ensures ∙ c.as_slice.ensures.value)
