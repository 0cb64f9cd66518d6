use Rattle.std.proofs.Common.{arith}
use Rattle.std.specs.Prelude.{replicate}
use Rattle.std.proofs.lemmas.List.{length-replicate}
use Rattle.abc_heap_values.specs.declared.values.Value.TheVariants.{Undefined}
use Rattle.abc_heap_store.proofs.Arrays.{array_begun, array_filled, array_is_made}
use Rattle.abc_heap_store.proofs.store.Store.new_undefined.Goals as goal

pub add_undefined-requires-clause-inside : goal.add_undefined-requires-clause-inside
add_undefined-requires-clause-inside c = (array_begun c.args.self.now _ _ _ _ _ c.in_ok-room.ensures c.make_array-o.ensures.number c.make_array-o.ensures.heap).0

pub add_undefined-requires-clause-room : goal.add_undefined-requires-clause-room
add_undefined-requires-clause-room c =
    let r = (array_begun c.args.self.now _ _ _ _ _ c.in_ok-room.ensures c.make_array-o.ensures.number c.make_array-o.ensures.heap).1 in
    (r.0, omega (arith, r.1, c.from.ensures))

pub add_undefined-requires-clause-array : goal.add_undefined-requires-clause-array
add_undefined-requires-clause-array c = array_is_made c.args.self.now _ _ _ _ c.make_array-o.ensures.number c.make_array-o.ensures.heap

pub returns : goal.returns
returns c = record {
  number = c.make_array-o.ensures.number;
  room = (omega (arith, c.in_ok-room.ensures), omega (arith, c.in_ok-room.ensures, length-replicate c.args.count Undefined));
  heap = array_filled c.args.self.now _ _ (replicate c.args.count Undefined) _ _ _ c.make_array-o.ensures.number c.make_array-o.ensures.heap c.add_undefined.ensures;
}
