use Rattle.abc_heap_values.specs.declared.values.Span.{Span}
use Rattle.abc_heap_store.specs.Heap.{Heap}
use Rattle.abc_objects.proofs.Grown.{exists_grown, grows_on}
use Rattle.abc_ops.specs.Conversions.{spelling}
use Rattle.abc_ops.specs.Operations.{joined_to}
use Rattle.abc_ops.proofs.Staying.{then_err, then_ok}
use Rattle.abc_ops.proofs.operations.join.Goals as goal

pub join_to-requires-clause-right : goal.join_to-requires-clause-right
join_to-requires-clause-right c = exists_grown c.args.l.now c.args.a.now c.spell.new.a c.args.y c.in-Ok.ensures.grows c.requires.right

pub returns-in-Ok-clause-left : goal.returns-in-Ok-clause-left
returns-in-Ok-clause-left c =
    let l = c.args.l.now in
    then_ok (spelling l c.args.a.now c.args.x) c.in-Ok.s c.spell.new.a (λ (k : Heap) (b : Span). joined_to l k b c.args.y) c.join_to.result c.join_to.new.a c.in-Ok.ensures.left c.join_to.ensures.left

pub returns-in-Ok-clause-grows : goal.returns-in-Ok-clause-grows
returns-in-Ok-clause-grows c = grows_on c.args.a.now c.spell.new.a c.join_to.new.a c.in-Ok.ensures.grows c.join_to.ensures.grows

pub returns-in-Err-clause-left : goal.returns-in-Err-clause-left
returns-in-Err-clause-left c =
    let l = c.args.l.now in
    then_err (spelling l c.args.a.now c.args.x) c.in-Err.end c.spell.new.a (λ (k : Heap) (b : Span). joined_to l k b c.args.y) c.in-Err.ensures.left
