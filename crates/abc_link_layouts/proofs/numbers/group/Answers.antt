use Rattle.abc_link_layouts.proofs.Grouping.{groups_texts}
use Rattle.abc_link_layouts.proofs.numbers.group.Goals as goal

pub returns : goal.returns
returns c = groups_texts c.args.abc.now c.args.texts.now c.args.numbers.now _ _ c.args.table.now _ c.requires.texts c.requires.numbers c.in_ok-keys.ensures c.as_slice.ensures.value c.in_ok-groups.ensures
