use Rattle.std.proofs.Common.{◌+◌, ap, sym, arith}
use Rattle.std.specs.Prelude.{replicate}
use Rattle.std.proofs.lemmas.List.{replicate_more, length-replicate}
use Rattle.abc_heap_values.specs.declared.values.Value.TheVariants.{Undefined}
use Rattle.abc_heap_store.proofs.Arrays.{element_fits, element_added_on, no_elements, array_stays}
use Rattle.abc_heap_store.proofs.store.Store.add_undefined.Goals as goal

pub loop-init : goal.loop-init
loop-init c = (omega arith, sym (ap (λ obs. record c.args.self.now { objects = obs }) (no_elements c.args.o.0 c.args.self.now.objects)))

pub add_element-requires-clause-inside : goal.add_element-requires-clause-inside
add_element-requires-clause-inside c = (element_fits c.args.self.now _ (replicate c.loop.counter Undefined) c.args.o.0 c.loop.counter c.args.count c.requires.inside c.requires.room (omega arith) (length-replicate c.loop.counter Undefined) c.loop.invariant.1).0

pub add_element-requires-clause-room : goal.add_element-requires-clause-room
add_element-requires-clause-room c = (element_fits c.args.self.now _ (replicate c.loop.counter Undefined) c.args.o.0 c.loop.counter c.args.count c.requires.inside c.requires.room (omega arith) (length-replicate c.loop.counter Undefined) c.loop.invariant.1).1.1

pub add_element-requires-clause-array : goal.add_element-requires-clause-array
add_element-requires-clause-array c = array_stays c.args.self.now _ (replicate c.loop.counter Undefined) c.args.o.0 c.requires.array c.loop.invariant.1

pub loop-preserved : goal.loop-preserved
loop-preserved c = (omega arith, element_added_on c.args.self.now _ _ (replicate c.loop.counter Undefined) (replicate (c.loop.counter + 1) Undefined) Undefined c.args.o.0 c.loop.invariant.1 c.add_element.ensures (replicate_more c.loop.counter Undefined))
