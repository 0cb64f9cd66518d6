use Rattle.std.proofs.Common.{subst, sym}
use Rattle.abc_link_names.specs.declared.types.Ty.{Ty}
use Rattle.abc_run_state.specs.OfType.{IsOfType}
use Rattle.abc_run_state.proofs.StaysSo.{any_kept}
use Rattle.abc_run_state.proofs.of_type.is_of_type.Goals as goal

pub returns-in-Any : goal.returns-in-Any
returns-in-Any c = λ e. subst (λ (t : Ty). IsOfType t c.args.v) (sym c.in-Any.is) (any_kept c.args.v)

pub returns-in-Int : goal.returns-in-Int
returns-in-Int c = λ e. subst (λ (t : Ty). IsOfType t c.args.v) (sym c.in-Int.is) (c.is_of_int.ensures e)

pub returns-in-Number : goal.returns-in-Number
returns-in-Number c = λ e. subst (λ (t : Ty). IsOfType t c.args.v) (sym c.in-Number.is) (c.is_of_number.ensures e)

pub returns-in-Boolean : goal.returns-in-Boolean
returns-in-Boolean c = λ e. subst (λ (t : Ty). IsOfType t c.args.v) (sym c.in-Boolean.is) (c.is_of_boolean.ensures e)

pub returns-in-Text : goal.returns-in-Text
returns-in-Text c = λ e. subst (λ (t : Ty). IsOfType t c.args.v) (sym c.in-Text.is) (c.is_of_text.ensures e)
