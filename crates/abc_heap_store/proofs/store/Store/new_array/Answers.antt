use Rattle.std.proofs.Common.{arith}
use Rattle.abc_heap_store.proofs.Arrays.{array_begun, array_filled, array_is_made}
use Rattle.abc_heap_store.proofs.store.Store.new_array.Goals as goal

pub add_elements-requires-clause-inside : goal.add_elements-requires-clause-inside
add_elements-requires-clause-inside c = (array_begun c.args.self.now _ _ _ _ _ c.in_ok-room.ensures c.make_array-o.ensures.number c.make_array-o.ensures.heap).0

pub add_elements-requires-clause-room : goal.add_elements-requires-clause-room
add_elements-requires-clause-room c = (array_begun c.args.self.now _ _ _ _ _ c.in_ok-room.ensures c.make_array-o.ensures.number c.make_array-o.ensures.heap).1

pub add_elements-requires-clause-array : goal.add_elements-requires-clause-array
add_elements-requires-clause-array c = array_is_made c.args.self.now _ _ _ _ c.make_array-o.ensures.number c.make_array-o.ensures.heap

pub returns : goal.returns
returns c = record {
  number = c.make_array-o.ensures.number;
  room = (omega (arith, c.in_ok-room.ensures), omega (arith, c.in_ok-room.ensures));
  heap = array_filled c.args.self.now _ _ c.args.elements.now _ _ _ c.make_array-o.ensures.number c.make_array-o.ensures.heap c.add_elements.ensures;
}
