use Rattle.std.proofs.Common.{◌≡◌, ◌++◌, ◌∙◌, List, ap}
use Rattle.abc_verify_typing.specs.Routines.{catches_from}
use Rattle.abc_verify_typing.specs.declared.catch.Catch.{Catch}
use Rattle.abc_verify_states.proofs.catches.catches_of.Goals as goal

pub returns : goal.returns
returns c = c.in_ok-push_catches.ensures ∙ ap (λ (z : List Catch). z ++ catches_from c.args.linked.now c.args.body 0 c.args.handlers.now) c.new-list.ensures
