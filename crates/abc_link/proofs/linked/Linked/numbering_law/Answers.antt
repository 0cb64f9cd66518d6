use Rattle.std.proofs.Common.{subst}
use Rattle.abc_link_layouts.specs.Numbering.{HasLayoutNumbers}
use Rattle.abc_link.proofs.Laws.{is_numbered}
use Rattle.abc_link.proofs.linked.Linked.numbering_law.Goals as goal

pub returns : goal.returns
returns c = subst HasLayoutNumbers c.self.view_is (is_numbered c.self.inside c.self.invariant)
