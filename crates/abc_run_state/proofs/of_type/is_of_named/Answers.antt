use Rattle.std.proofs.Common.{◌∙◌, ap, sym}
use Rattle.std.specs.declared.option.Option.{Option}
use Rattle.abc_link_names.specs.declared.types.Ty.{Ty}
use Rattle.abc_meaning.specs.World.{and_then, some}
use Rattle.abc_meaning.specs.Ops.{coerces}
use Rattle.abc_run_state.specs.Outer.{setting_in}
use Rattle.abc_run_state.proofs.of_type.is_of_named.Goals as goal

pub returns-in-Some : goal.returns-in-Some
returns-in-Some c = λ e out w.
    let p = setting_in c.args.linked.now out in
    ap (λ (o : Option Ty). and_then (some o w) (λ t. coerces p t c.args.v)) (sym c.type_of.ensures ∙ c.in-Some.is) ∙ c.is_of_type.ensures e p w
