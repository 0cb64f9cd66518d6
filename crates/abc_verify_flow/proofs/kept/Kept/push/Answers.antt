use Rattle.std.proofs.Common.{List, [], ◌∷◌, ◌++◌, length, sym, ap, ◌∙◌, subst}
use Rattle.abc_link_names.specs.declared.types.Kind.{Kind}
use Rattle.abc_verify_typing.specs.declared.state.Scope.{Scope}
use Rattle.abc_verify_typing.specs.declared.state.State.{State}
use Rattle.abc_verify_flow.specs.Blocks.{blocks_of_64}
use Rattle.abc_verify_flow.specs.Kept.{AreStatesLaid, states_of}
use Rattle.abc_verify_flow.specs.declared.kept.Head.{Head}
use Rattle.abc_verify_flow.proofs.Laid.{head_along, longer_laid, longer_states, pushed_laid, pushed_states}
use Rattle.abc_verify_flow.proofs.Parts.{longer_self, on_err}
use Rattle.abc_verify_flow.proofs.kept.Kept.push.Goals as goal

pub returns-in_err-add_operands-clause-err : goal.returns-in_err-add_operands-clause-err
returns-in_err-add_operands-clause-err c =
    on_err c.from_residual-in_err-add_operands.result _ (
    longer_states c.self.inside.heads.items c.self.inside.operands c.add_operands.new.list c.self.inside.scopes.items c.self.inside.scopes.items c.self.inside.locals c.self.inside.locals c.self.invariant c.add_operands.ensures.longer (longer_self _) (longer_self _)
    ∙ c.self.view_is
    )

pub invariant_of-self-in_err-add_all : goal.invariant_of-self-in_err-add_all
invariant_of-self-in_err-add_all c = longer_laid c.self.inside.heads.items c.self.inside.operands c.add_operands.new.list c.self.inside.scopes.items c.add_all.new.list.items c.self.inside.locals c.self.inside.locals c.self.invariant c.add_operands.ensures.longer c.add_all.ensures.longer (longer_self _)

pub returns-in_err-add_all-clause-err : goal.returns-in_err-add_all-clause-err
returns-in_err-add_all-clause-err c =
    on_err c.from_residual-in_err-add_all.result _ (
    longer_states c.self.inside.heads.items c.self.inside.operands c.add_operands.new.list c.self.inside.scopes.items c.add_all.new.list.items c.self.inside.locals c.self.inside.locals c.self.invariant c.add_operands.ensures.longer c.add_all.ensures.longer (longer_self _)
    ∙ c.self.view_is
    )

pub invariant_of-self-in_err-add_locals : goal.invariant_of-self-in_err-add_locals
invariant_of-self-in_err-add_locals c = longer_laid c.self.inside.heads.items c.self.inside.operands c.add_operands.new.list c.self.inside.scopes.items c.add_all.new.list.items c.self.inside.locals c.add_locals.new.blocks c.self.invariant c.add_operands.ensures.longer c.add_all.ensures.longer c.add_locals.ensures.longer

pub returns-in_err-add_locals-clause-err : goal.returns-in_err-add_locals-clause-err
returns-in_err-add_locals-clause-err c =
    on_err c.from_residual-in_err-add_locals.result _ (
    longer_states c.self.inside.heads.items c.self.inside.operands c.add_operands.new.list c.self.inside.scopes.items c.add_all.new.list.items c.self.inside.locals c.add_locals.new.blocks c.self.invariant c.add_operands.ensures.longer c.add_all.ensures.longer c.add_locals.ensures.longer
    ∙ c.self.view_is
    )

pub invariant_of-self-in_err-add_head : goal.invariant_of-self-in_err-add_head
invariant_of-self-in_err-add_head c =
    subst (λ (hs : List Head). AreStatesLaid hs (length c.add_operands.new.list) (length c.add_all.new.list.items) (length c.add_locals.new.blocks)) (sym c.in_err-add_head.ensures.err)
    (longer_laid c.self.inside.heads.items c.self.inside.operands c.add_operands.new.list c.self.inside.scopes.items c.add_all.new.list.items c.self.inside.locals c.add_locals.new.blocks c.self.invariant c.add_operands.ensures.longer c.add_all.ensures.longer c.add_locals.ensures.longer)

pub returns-in_err-add_head-clause-err : goal.returns-in_err-add_head-clause-err
returns-in_err-add_head-clause-err c =
    on_err c.from_residual-in_err-add_head.result _ (
    ap (states_of c.add_operands.new.list c.add_all.new.list.items c.add_locals.new.blocks) c.in_err-add_head.ensures.err
    ∙ longer_states c.self.inside.heads.items c.self.inside.operands c.add_operands.new.list c.self.inside.scopes.items c.add_all.new.list.items c.self.inside.locals c.add_locals.new.blocks c.self.invariant c.add_operands.ensures.longer c.add_all.ensures.longer c.add_locals.ensures.longer
    ∙ c.self.view_is
    )

pub invariant_of-self-2 : goal.invariant_of-self-2
invariant_of-self-2 c =
    subst (λ (hs : List Head). AreStatesLaid hs (length c.add_operands.new.list) (length c.add_all.new.list.items) (length c.add_locals.new.blocks)) (sym c.in_ok-add_head.ensures.ok)
    (pushed_laid c.self.inside.heads.items c.self.inside.operands c.add_operands.new.list c.self.inside.scopes.items c.add_all.new.list.items c.self.inside.locals c.add_locals.new.blocks c.in_ok-head.head c.args.state.now c.self.invariant (head_along _ _ _ _ _ _ c.args.state.now c.in_ok-head.head c.in_ok-head.ensures c.len.ensures (c.len-2.ensures ∙ c.self.inside.scopes.ok.0) c.len-3.ensures) c.in_ok-add_operands.ensures.ok (c.in_ok-add_all.ensures.ok ∙ ap (λ (xs : List Scope). c.self.inside.scopes.items ++ xs) c.as_slice.ensures) (c.in_ok-add_locals.ensures.ok ∙ ap (λ (xs : List Kind). c.self.inside.locals ++ blocks_of_64 c.in_ok-head.head.locals.count xs) c.as_slice-2.ensures))

pub returns-clause-ok : goal.returns-clause-ok
returns-clause-ok c =
    ap (states_of c.add_operands.new.list c.add_all.new.list.items c.add_locals.new.blocks) c.in_ok-add_head.ensures.ok
    ∙ pushed_states c.self.inside.heads.items c.self.inside.operands c.add_operands.new.list c.self.inside.scopes.items c.add_all.new.list.items c.self.inside.locals c.add_locals.new.blocks c.in_ok-head.head c.args.state.now c.self.invariant (head_along _ _ _ _ _ _ c.args.state.now c.in_ok-head.head c.in_ok-head.ensures c.len.ensures (c.len-2.ensures ∙ c.self.inside.scopes.ok.0) c.len-3.ensures) c.in_ok-add_operands.ensures.ok (c.in_ok-add_all.ensures.ok ∙ ap (λ (xs : List Scope). c.self.inside.scopes.items ++ xs) c.as_slice.ensures) (c.in_ok-add_locals.ensures.ok ∙ ap (λ (xs : List Kind). c.self.inside.locals ++ blocks_of_64 c.in_ok-head.head.locals.count xs) c.as_slice-2.ensures)
    ∙ ap (λ (xs : List State). xs ++ c.args.state.now ∷ []) c.self.view_is
