use Rattle.abc_link_names.specs.Kinds.{IsAtMost}
use Rattle.abc_verify_states.proofs.Pairs.{tested_along}
use Rattle.abc_verify_states.proofs.below.is_operand_at_most.Goals as goal

pub returns : goal.returns
returns g c = tested_along (IsAtMost (g.T.Tree.file c.args.tree.now)) c.is_at_most.result _ _ _ _ c.get_or-x.ensures c.get_or-y.ensures c.is_at_most.ensures
