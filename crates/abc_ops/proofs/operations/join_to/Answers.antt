use Rattle.abc_heap_values.specs.declared.values.Span.{Span}
use Rattle.abc_heap_store.specs.Heap.{Heap}
use Rattle.abc_objects.proofs.Grown.{grows_on, text_grown}
use Rattle.abc_ops.specs.Conversions.{spelling}
use Rattle.abc_ops.specs.Operations.{joined_texts}
use Rattle.abc_ops.proofs.Staying.{then_err, then_ok}
use Rattle.abc_ops.proofs.operations.join_to.Goals as goal

pub join_texts-requires-clause-left : goal.join_texts-requires-clause-left
join_texts-requires-clause-left c = text_grown c.args.l.now c.args.a.now c.spell.new.a c.args.s c.in-Ok.ensures.grows c.requires.left

pub returns-in-Ok-clause-left : goal.returns-in-Ok-clause-left
returns-in-Ok-clause-left c =
    let l = c.args.l.now in
    then_ok (spelling l c.args.a.now c.args.y) c.in-Ok.t c.spell.new.a (λ (k : Heap) (b : Span). joined_texts l k c.args.s b) c.join_texts.result c.join_texts.new.a c.in-Ok.ensures.left c.join_texts.ensures.left

pub returns-in-Ok-clause-grows : goal.returns-in-Ok-clause-grows
returns-in-Ok-clause-grows c = grows_on c.args.a.now c.spell.new.a c.join_texts.new.a c.in-Ok.ensures.grows c.join_texts.ensures.grows

pub returns-in-Err-clause-left : goal.returns-in-Err-clause-left
returns-in-Err-clause-left c =
    let l = c.args.l.now in
    then_err (spelling l c.args.a.now c.args.y) c.in-Err.end c.spell.new.a (λ (k : Heap) (b : Span). joined_texts l k c.args.s b) c.in-Err.ensures.left
