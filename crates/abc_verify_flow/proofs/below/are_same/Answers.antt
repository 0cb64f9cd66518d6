use Rattle.std.proofs.Common.{List, [], ◌∷◌, ◌++◌, take, sym, ap, ◌∙◌, arith}
use Rattle.std.proofs.lemmas.List.{take_all}
use Rattle.abc_link_names.specs.declared.types.Kind.{Kind}
use Rattle.abc_verify_flow.proofs.Lists.{read_more}
use Rattle.abc_verify_flow.proofs.below.are_same.Goals as goal

pub loop-place-preserved : goal.loop-place-preserved
loop-place-preserved c =
    read_more c.args.kinds.now c.loop-place.place c.value_at.result.now c.value_at.ensures
    ∙ ap (λ (xs : List Kind). xs ++ c.value_at.result.now ∷ []) c.loop-place.invariant
    ∙ ap (λ (x : Kind). take c.loop-place.place c.args.others.now ++ x ∷ []) (c.is_same.ensures c.if-not-is_same.false)
    ∙ sym (read_more c.args.others.now c.loop-place.place c.value_at-in-loop-place.result.now c.value_at-in-loop-place.ensures)

pub returns : goal.returns
returns c = λ yes. sym (take_all c.loop-place.place c.args.kinds.now (omega arith)) ∙ c.loop-place.invariant ∙ take_all c.loop-place.place c.args.others.now (omega arith)
