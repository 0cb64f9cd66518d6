use Rattle.std.proofs.Common.{◌≡◌, ◌∙◌, ap, sym}
use Rattle.abc_verify_typing.specs.declared.state.Scope.{Scope}
use Rattle.abc_verify_states.specs.Triples.{IsJoinScope}
use Rattle.abc_verify_states.proofs.Threes.{joined_along}
use Rattle.abc_verify_states.proofs.joining.join_scopes_at.Goals as goal

pub join_scope-requires : goal.join_scope-requires
join_scope-requires g c = ap (λ (s : Scope). s.is_with) c.at_or-x.ensures ∙ c.requires ∙ sym (ap (λ (s : Scope). s.is_with) c.at_or-y.ensures)

pub returns : goal.returns
returns g c = joined_along (IsJoinScope (g.T.Tree.file c.args.tree.now)) _ _ _ _ _ c.at_or-x.ensures c.at_or-y.ensures c.join_scope.ensures
