use Rattle.std.proofs.Common.{◌∙◌, ap, sym}
use Rattle.abc_lookup.specs.NoTraits.{part_is_bare}
use Rattle.abc_lookup.proofs.NoTraits.{bare_part}
use Rattle.abc_lookup.proofs.plain.has_no_traits.Goals as goal

pub returns : goal.returns
returns c = λ e. bare_part c.args.l.now c.linked_law.ensures c.args.x.0 (ap part_is_bare (sym c.part_of.ensures) ∙ sym c.is_bare.ensures ∙ e)
