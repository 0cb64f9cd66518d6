use Rattle.abc_link_names.specs.Kinds.{IsJoin}
use Rattle.abc_verify_states.proofs.Threes.{joined_along}
use Rattle.abc_verify_states.proofs.joining.join_locals_at.Goals as goal

pub returns : goal.returns
returns g c = joined_along (IsJoin (g.T.Tree.file c.args.tree.now)) _ _ _ _ _ c.local_at-x.ensures c.local_at-y.ensures c.join_kinds.ensures
