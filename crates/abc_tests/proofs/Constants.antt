-- A formula of the constant 5, without factors, gives 5.
use Rattle.std.proofs.Common.{◌≡◌, List, [], ap, ◌∙◌}
use Rattle.std.specs.Prelude.{ℤ, pos, ◌+ℤ◌, Some}
use Rattle.abc_base.specs.Hosts.{answer_of, plain_arguments, number_or_none, sum_of_products}
use Rattle.abc_base.specs.declared.formula.Formula.{Formula}
use Rattle.abc_base.specs.declared.plain.Plain.{Plain}

pub five : (f : Formula) (args : Plain) → f.constant ≡ pos 5 → f.factors ≡ [] → answer_of f args ≡ Some (pos 5)
five f args constant factors =
    ap (λ (c : ℤ). number_or_none (c +ℤ sum_of_products f.factors (plain_arguments args))) constant
    ∙ ap (λ (fs : List ℤ). number_or_none (pos 5 +ℤ sum_of_products fs (plain_arguments args))) factors
