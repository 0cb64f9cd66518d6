use Rattle.std.proofs.Common.{◌≡◌, ◌<◌, ◌∙◌, ap, length, subst, sym}
use Rattle.abc_link_names.specs.PartsByNumber.{body_at, no_body}
use Rattle.abc_file_types.specs.declared.tables.Abc.{Abc}
use Rattle.abc_verify_states.proofs.Finds.{at_any}
use Rattle.abc_verify_states.proofs.frame.body_numbered.Goals as goal

pub get-requires : goal.get-requires
get-requires c = subst (λ (v : Abc). c.args.body < length v.bodies) (sym c.abc.ensures) c.requires

pub returns : goal.returns
returns c =
    at_any c.abc.result.now.bodies c.args.body c.get.result.now no_body (subst (λ (v : Abc). c.args.body < length v.bodies) (sym c.abc.ensures) c.requires) c.get.ensures
    ∙ ap (λ (v : Abc). body_at v c.args.body) c.abc.ensures
