use Rattle.abc_verify_typing.specs.Typing.{ScopeLe}
use Rattle.abc_verify_states.proofs.Pairs.{tested_along}
use Rattle.abc_verify_states.proofs.below.is_scope_at_most_at.Goals as goal

pub returns : goal.returns
returns g c = tested_along (ScopeLe (g.T.Tree.file c.args.tree.now)) c.is_scope_at_most.result _ _ _ _ c.at_or-x.ensures c.at_or-y.ensures c.is_scope_at_most.ensures
