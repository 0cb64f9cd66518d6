use Rattle.std.proofs.Common.{◌<◌, ◌∙◌, length, get_or, ap, subst, sym}
use Rattle.abc_run_state.specs.Outer.{setting_in}
use Rattle.abc_file_types.specs.declared.tables.Abc.{Abc}
use Rattle.abc_link_names.proofs.MethodBodies.{body_inside}
use Rattle.abc_run_calls.proofs.Bodied.{size_is, sized}
use Rattle.abc_run_calls.proofs.methods.size_of.Goals as goal

pub get-body-requires : goal.get-body-requires
get-body-requires c = subst (λ (v : Abc). c.in-Some.number < length v.bodies) (sym c.abc.ensures) (body_inside c.args.linked.now.file c.args.method c.in-Some.number (sym c.body_of.ensures ∙ c.in-Some.is))

pub returns : goal.returns
returns c = λ out.
    let body = c.get-body.result.now in
    ap (sized body) c.saturating_sub.ensures
    ∙ size_is (setting_in c.args.linked.now out) c.args.method c.in-Some.number body (sym c.body_of.ensures ∙ c.in-Some.is) (ap (λ (v : Abc). get_or v.bodies c.in-Some.number body) (sym c.abc.ensures) ∙ c.get-body.ensures)
