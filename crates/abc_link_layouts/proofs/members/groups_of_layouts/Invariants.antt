use Rattle.abc_link_layouts.specs.Files.{linked_file}
use Rattle.abc_link_layouts.specs.Grouped.{HasGroups}
use Rattle.abc_link_layouts.proofs.members.groups_of_layouts.Given as goal

abbrev pub invariant-loop-x : goal.invariant-loop-x
invariant-loop-x l = HasGroups (linked_file l.abc l.layouts) l.texts l.groups l.x
