use Rattle.std.proofs.Common.{◌≡◌, ◌<◌, get_or, length, sym, ap, ◌∙◌, subst}
use Rattle.std.specs.Prelude.{Some}
use Rattle.abc_run_dispatch.proofs.Coded.{code_is}
use Rattle.abc_run_dispatch.specs.Held.{code_in}
use Rattle.abc_link_names.proofs.MethodBodies.{body_inside}
use Rattle.abc_link_names.specs.Owners.{body_of}
use Rattle.abc_file_types.specs.declared.tables.Abc.{Abc}
use Rattle.abc_run_dispatch.proofs.holding.hold.Goals as goal

pub get-requires : goal.get-requires
get-requires c = subst (λ (f : Abc). c.in-Some.body < length f.bodies) (sym c.abc.ensures) (body_inside c.args.linked.now.file c.args.method c.in-Some.body (sym c.body_of.ensures ∙ c.in-Some.is))

pub returns-in-Some-clause-held : goal.returns-in-Some-clause-held
returns-in-Some-clause-held c =
    let l = c.args.linked.now in
    let q : body_of l.file c.args.method ≡ Some c.in-Some.body = sym c.body_of.ensures ∙ c.in-Some.is in
    let here : get_or l.file.bodies c.in-Some.body c.get.result.now ≡ c.get.result.now = subst (λ (f : Abc). get_or f.bodies c.in-Some.body c.get.result.now ≡ c.get.result.now) c.abc.ensures c.get.ensures in
    c.as_slice.ensures ∙ (sym (code_is l c.args.method c.in-Some.body c.get.result.now q here) ∙ sym (ap (code_in l) q))
