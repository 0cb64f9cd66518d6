use Rattle.std.proofs.Common.{◌∙◌, sym}
use Rattle.abc_verify_typing.specs.Routines.{takes_array}
use Rattle.abc_verify_states.proofs.Starts.{none_added, one_added}
use Rattle.abc_verify_states.proofs.filled.push_array.Goals as goal

pub returns-then-not-takes_array : goal.returns-then-not-takes_array
returns-then-not-takes_array c = none_added (takes_array c.args.flags) c.args.filled.now _ (sym c.takes_array.ensures ∙ c.if-not-takes_array.true)

pub returns : goal.returns
returns c = one_added (takes_array c.args.flags) c.part_kind-kind.result _ c.args.filled.now _ (sym c.takes_array.ensures ∙ c.if-not-takes_array.false) c.part_kind-kind.ensures c.in_ok-push.ensures.ok
