use Rattle.abc_link_names.specs.Kinds.{IsJoin}
use Rattle.abc_verify_states.proofs.Threes.{joined_along}
use Rattle.abc_verify_states.proofs.joining.join_operands.Goals as goal

pub returns : goal.returns
returns g c = joined_along (IsJoin (g.T.Tree.file c.args.tree.now)) _ _ _ _ _ c.get_or-x.ensures c.get_or-y.ensures c.join_kinds.ensures
