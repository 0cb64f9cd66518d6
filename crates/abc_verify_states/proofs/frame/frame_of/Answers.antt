use Rattle.std.proofs.Common.{◌∙◌, ap}
use Rattle.abc_link_names.specs.Owners.{owner_of}
use Rattle.abc_link_names.specs.PartsByNumber.{method_at}
use Rattle.abc_file_types.specs.declared.code.Body.{Body}
use Rattle.abc_verify_typing.specs.Routines.{routine_with}
use Rattle.abc_verify_states.proofs.frame.frame_of.Goals as goal

pub returns : goal.returns
returns c =
    let l = c.args.linked.now in
    c.in_ok-frame.ensures ∙ ap (λ (y : Body). routine_with l c.args.body y (method_at l.file y.method) (owner_of l.file y.method)) c.body_numbered-found.ensures
