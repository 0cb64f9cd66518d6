use Rattle.std.proofs.Common.{◌≡◌, ◌≤◌}
use Rattle.abc_objects.specs.Opening.{formula_objects, with_objects}
use Rattle.abc_objects.proofs.opening.make_formulas.Given as goal

abbrev pub invariant-loop-formula : goal.invariant-loop-formula
invariant-loop-formula v = (v.store ≡ with_objects (formula_objects v.l v.formula) v.initial.store) × (v.formula ≤ v.formulas)
