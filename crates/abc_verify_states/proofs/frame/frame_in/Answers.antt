use Rattle.abc_link_names.specs.Owners.{owner_of}
use Rattle.abc_link_names.specs.PartsByNumber.{method_at}
use Rattle.abc_verify_states.proofs.Starts.{framed}
use Rattle.abc_verify_states.proofs.frame.frame_in.Goals as goal

pub returns : goal.returns
returns c =
    let file = c.args.linked.now.file in
    let body = c.args.body.now in
    framed c.args.linked.now c.args.number body (method_at file body.method) (owner_of file body.method) c.owner-whose.result _ _ c.flags_of-flags.result _ _ _ _ _
    c.in_ok-filled.ensures
    c.home_of_owner-home.ensures
    c.owner-whose.ensures
    c.flags_of-flags.ensures
    c.has_flag-needs_activation.ensures
    c.is_unsupported-unsupported.ensures
    c.layout_of-activation.ensures
    c.scopes_of-scope_size.ensures
    c.in_ok-handlers.ensures
