use Rattle.std.proofs.Common.{ℕ, List, length, set, sym, ap, ◌∙◌, subst}
use Rattle.abc_link_names.specs.declared.types.Kind.{Kind}
use Rattle.abc_verify_typing.specs.declared.state.State.{State}
use Rattle.abc_verify_flow.specs.Blocks.{blocks_of_64}
use Rattle.abc_verify_flow.specs.Kept.{AreStatesLaid, over}
use Rattle.abc_verify_flow.proofs.Laid.{put_laid, put_length, put_states}
use Rattle.abc_verify_flow.proofs.kept.Kept.put.Goals as goal

pub invariant_of-self : goal.invariant_of-self
invariant_of-self c = subst (λ (n : ℕ). AreStatesLaid c.self.inside.heads.items (length c.self.inside.operands) (length c.self.inside.scopes.items) n) (sym c.put_locals.ensures.as_many) c.self.invariant

pub returns-in_err-put_locals-clause-as_many : goal.returns-in_err-put_locals-clause-as_many
returns-in_err-put_locals-clause-as_many c = put_length c.self.inside.heads.items c.self.inside.operands c.self.inside.operands c.self.inside.scopes.items c.self.inside.scopes.items c.self.inside.locals c.put_locals.new.blocks ∙ ap (λ (xs : List State). length xs) c.self.view_is

pub invariant_of-self-2 : goal.invariant_of-self-2
invariant_of-self-2 c = put_laid c.self.inside.heads.items c.self.inside.operands c.put_operands.new.list c.self.inside.scopes.items c.put_all.new.list.items c.self.inside.locals c.put_locals.new.blocks c.args.index c.head_at-head.result c.args.state.now c.self.invariant c.head_at-head.ensures (c.fits.ensures c.if-not-fits.false) c.put_operands.ensures (c.put_all.ensures ∙ ap (over c.head_at-head.result.scopes c.self.inside.scopes.items) c.as_slice-2.ensures) (c.in_ok-put_locals.ensures.ok ∙ ap (λ (xs : List Kind). over c.head_at-head.result.locals c.self.inside.locals (blocks_of_64 c.head_at-head.result.locals.count xs)) c.as_slice.ensures)

pub returns-clause-as_many : goal.returns-clause-as_many
returns-clause-as_many c = put_length c.self.inside.heads.items c.self.inside.operands c.put_operands.new.list c.self.inside.scopes.items c.put_all.new.list.items c.self.inside.locals c.put_locals.new.blocks ∙ ap (λ (xs : List State). length xs) c.self.view_is

pub returns-clause-put : goal.returns-clause-put
returns-clause-put c =
    put_states c.self.inside.heads.items c.self.inside.operands c.put_operands.new.list c.self.inside.scopes.items c.put_all.new.list.items c.self.inside.locals c.put_locals.new.blocks c.args.index c.head_at-head.result c.args.state.now c.self.invariant c.head_at-head.ensures (c.fits.ensures c.if-not-fits.false) c.put_operands.ensures (c.put_all.ensures ∙ ap (over c.head_at-head.result.scopes c.self.inside.scopes.items) c.as_slice-2.ensures) (c.in_ok-put_locals.ensures.ok ∙ ap (λ (xs : List Kind). over c.head_at-head.result.locals c.self.inside.locals (blocks_of_64 c.head_at-head.result.locals.count xs)) c.as_slice.ensures)
    ∙ ap (λ (xs : List State). set xs c.args.index c.args.state.now) c.self.view_is
