use Rattle.abc_link_names.specs.Kinds.{IsAtMost}
use Rattle.abc_link_names.specs.declared.types.Kind.TheVariants.{Any}
use Rattle.abc_verify_states.proofs.Pairs.{tested_along, there}
use Rattle.abc_verify_states.proofs.below.is_local_at_most.Goals as goal

pub returns : goal.returns
returns g c = tested_along (IsAtMost (g.T.Tree.file c.args.tree.now)) c.is_kind_at_most.result _ _ _ _ (there c.args.a.now c.args.place Any c.get-x.result.now c.requires.first c.get-x.ensures) (there c.args.b.now c.args.place Any c.get-y.result.now c.requires.second c.get-y.ensures) c.is_kind_at_most.ensures
