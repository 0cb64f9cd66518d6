use Rattle.std.proofs.Common.{ap, ◌∙◌}
use Rattle.abc_link_names.specs.Slots.{traits_of}
use Rattle.abc_link_layouts.specs.Files.{linked_file}
use Rattle.abc_link_layouts.proofs.Grouping.{groups_next}
use Rattle.abc_link_layouts.proofs.members.push_group.Goals as goal

pub returns : goal.returns
returns c =
    groups_next (linked_file c.args.abc.now c.args.layouts.now) _ _ _ c.args.x _ _ c.requires.before (c.traits_of-table.ensures ∙ ap (traits_of c.args.abc.now) c.part_of.ensures) c.in_ok-map.ensures
    c.in_ok-push.ensures.ok
