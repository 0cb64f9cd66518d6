use Rattle.std.proofs.Common.{ℕ, ◌∙◌, ap, eqb-true}
use Rattle.abc_objects.specs.declared.name.Spaces.TheVariants.{One}
use Rattle.abc_lookup.proofs.at_once.has_just.Goals as goal

pub returns-in-One : goal.returns-in-One
returns-in-One c = λ e. c.in-One.is ∙ ap (λ (n : ℕ). One n) (eqb-true c.in-One.one c.args.space e)
