use Rattle.std.proofs.Common.{◌≡◌, map, take}
use Rattle.abc_base.specs.declared.formula.Formula.{Formula}
use Rattle.abc_objects.proofs.texts.formula_names.Given as goal

abbrev pub invariant-loop-id : goal.invariant-loop-id
invariant-loop-id g v = v.names ≡ map (λ (f : Formula). f.name) (take v.id (g.H.Host.formulas v.host))
