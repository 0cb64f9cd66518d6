use Rattle.std.proofs.Common.{◌∙◌, ◌++◌, ◌∷◌, [], Ok, Err, OnErr, ap}
use Rattle.std.specs.declared.result.Result.{Result}
use Rattle.abc_base_graphs.proofs.Sharing.{view_added, view_kept, held_added}
use Rattle.abc_base_graphs.proofs.heirs.Heirs.keep.Goals as goal

on_err : {X E : Type 0} (r : Result X E) {P : Type 0} → P → OnErr r P
on_err (Ok x) p = tt
on_err (Err e) p = p

pub returns-in_err-push-2-clause-err : goal.returns-in_err-push-2-clause-err
returns-in_err-push-2-clause-err g c = on_err c.from_residual-in_err-push-2.result (view_kept _ _ _ _ _ c.in_ok-push.ensures.ok c.in_err-push-2.ensures.err c.self.invariant ∙ c.self.view_is)

pub invariant_of-self-2 : goal.invariant_of-self-2
invariant_of-self-2 g c = held_added _ _ _ _ _ _ c.len-holder.ensures c.in_ok-push.ensures.ok c.in_ok-push-2.ensures.ok c.self.invariant

pub returns-clause-ok : goal.returns-clause-ok
returns-clause-ok g c = view_added _ _ _ _ _ _ c.len-holder.ensures c.in_ok-push.ensures.ok c.in_ok-push-2.ensures.ok c.self.invariant ∙ ap (λ v. v ++ c.args.list ∷ []) c.self.view_is
