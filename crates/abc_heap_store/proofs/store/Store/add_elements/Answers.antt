use Rattle.std.proofs.Common.{◌+◌, ap, sym, arith, take, length}
use Rattle.std.proofs.lemmas.List.{length-take}
use Rattle.abc_heap_store.proofs.Bytes.{take_next_or}
use Rattle.abc_heap_store.proofs.Arrays.{element_fits, element_added_on, no_elements, array_stays}
use Rattle.abc_heap_store.proofs.store.Store.add_elements.Goals as goal

pub loop-element-init : goal.loop-element-init
loop-element-init c = sym (ap (λ obs. record c.args.self.now { objects = obs }) (no_elements c.args.o.0 c.args.self.now.objects))

pub add_element-requires-clause-inside : goal.add_element-requires-clause-inside
add_element-requires-clause-inside c = (element_fits c.args.self.now _ (take c.loop-element.element-index c.args.elements.now) c.args.o.0 c.loop-element.element-index (length c.args.elements.now) c.requires.inside c.requires.room c.loop-element-test.true (omega (arith, length-take c.loop-element.element-index c.args.elements.now, c.loop-element-test.true)) c.loop-element.invariant).0

pub add_element-requires-clause-room : goal.add_element-requires-clause-room
add_element-requires-clause-room c = (element_fits c.args.self.now _ (take c.loop-element.element-index c.args.elements.now) c.args.o.0 c.loop-element.element-index (length c.args.elements.now) c.requires.inside c.requires.room c.loop-element-test.true (omega (arith, length-take c.loop-element.element-index c.args.elements.now, c.loop-element-test.true)) c.loop-element.invariant).1.1

pub add_element-requires-clause-array : goal.add_element-requires-clause-array
add_element-requires-clause-array c = array_stays c.args.self.now _ (take c.loop-element.element-index c.args.elements.now) c.args.o.0 c.requires.array c.loop-element.invariant

pub loop-element-preserved : goal.loop-element-preserved
loop-element-preserved c = element_added_on c.args.self.now _ _ (take c.loop-element.element-index c.args.elements.now) (take (c.loop-element.element-index + 1) c.args.elements.now) _ c.args.o.0 c.loop-element.invariant c.add_element.ensures (take_next_or c.args.elements.now c.loop-element.element-index _ c.loop-element-test.true)
