use Rattle.std.proofs.Common.{◌∙◌}
use Rattle.abc_link_layouts.proofs.Grouping.{numbered, unnumbered}
use Rattle.abc_link_layouts.proofs.members.Members.own_numbered.Goals as goal

pub returns-in-Some : goal.returns-in-Some
returns-in-Some c = λ t is. c.get.ensures.value ∙ numbered _ _ _ _ _ _ _ t c.requires.groups c.group_of-groups.ensures (is ∙ c.in-Some.is)

pub returns-in-None : goal.returns-in-None
returns-in-None c = λ t is. unnumbered _ _ _ _ _ _ t c.requires.groups c.group_of-groups.ensures (is ∙ c.in-None.is)
