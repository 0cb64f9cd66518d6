use Rattle.std.proofs.Common.{ap, refl, ◌∙◌}
use Rattle.abc_link_names.specs.Kinds.{IsAtMost}
use Rattle.abc_verify_typing.specs.Typing.{ScopeLe}
use Rattle.abc_verify_flow.specs.Kept.{part, state_of}
use Rattle.abc_verify_flow.proofs.Laid.{state_here}
use Rattle.abc_verify_flow.proofs.Lists.{each_along}
use Rattle.abc_verify_flow.proofs.kept.Kept.is_above.Goals as goal

pub returns : goal.returns
returns g c = λ yes. (
  state_of c.self.inside.operands c.self.inside.scopes.items c.self.inside.locals c.head_at-head.result,
  state_here c.self.inside.heads.items c.self.inside.operands c.self.inside.scopes.items c.self.inside.locals c.args.self.now c.args.index c.head_at-head.result (state_of c.self.inside.operands c.self.inside.scopes.items c.self.inside.locals c.head_at-head.result) c.self.view_is c.head_at-head.ensures refl refl refl,
  record {
    stack = each_along (IsAtMost (g.F.Flow.file c.args.flow.now)) _ _ _ _ (c.are_operands_below.ensures c.if-not-are_operands_below.false) refl (c.part.ensures ∙ ap (part c.head_at-head.result.operands) c.as_slice.ensures);
    scopes = each_along (ScopeLe (g.F.Flow.file c.args.flow.now)) _ _ _ _ (c.are_scopes_below.ensures yes) c.as_slice-3.ensures (c.part-2.ensures ∙ ap (part c.head_at-head.result.scopes) c.as_slice-4.ensures.value);
    locals = each_along (IsAtMost (g.F.Flow.file c.args.flow.now)) _ _ _ _ (c.are_locals_below.ensures c.if-not-are_locals_below.false) c.as_slice-2.ensures refl;
  },
)
