use Rattle.abc_verify_typing.specs.Typing.{HasOneFlag}
use Rattle.abc_verify_states.proofs.Pairs.{tested_along}
use Rattle.abc_verify_states.proofs.shape.has_same_flag.Goals as goal

pub returns : goal.returns
returns c = tested_along HasOneFlag c.is_same_flag.result _ _ _ _ c.at_or-x.ensures c.at_or-y.ensures c.is_same_flag.ensures
