use Rattle.abc_link_names.specs.Owners.{owner_of}
use Rattle.abc_link_names.specs.PartsByNumber.{method_at}
use Rattle.abc_verify_states.proofs.Starts.{filled_all}
use Rattle.abc_verify_states.proofs.filled.filled_of.Goals as goal

pub returns : goal.returns
returns c =
    filled_all c.args.linked.now (owner_of c.args.linked.now.file c.args.method) c.owner-whose.result (method_at c.args.linked.now.file c.args.method) c.kind_of_this-this.result c.parameters_of-types.result.now c.flags_of-flags.result _ _ _ _
    c.new-filled.ensures
    c.in_ok-push.ensures.ok
    c.kind_of_this-this.ensures
    c.owner-whose.ensures
    c.parameters_of-types.ensures
    c.in_ok-push_types.ensures
    c.flags_of-flags.ensures
    c.in_ok-push_array.ensures
