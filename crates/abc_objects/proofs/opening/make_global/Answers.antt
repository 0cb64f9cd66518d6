use Rattle.std.proofs.Common.{◌+◌, ◌∷◌, [], arith, length}
use Rattle.abc_base.specs.declared.names.HostClass.TheVariants as hosts
use Rattle.abc_heap_store.specs.declared.records.What.TheVariants as whats
use Rattle.abc_link_names.specs.Linked.{layout_of}
use Rattle.abc_link_names.specs.Slots.{slots_of}
use Rattle.abc_link_names.specs.declared.part.Part.TheVariants as parts
use Rattle.abc_objects.specs.Opening.{global_object}
use Rattle.abc_objects.proofs.Steps.{global_entered, opened_cells, room_on}
use Rattle.abc_objects.proofs.opening.make_global.Goals as goal
use Rattle.std.specs.Prelude.{Some}

pub make_part-object-requires-clause-room : goal.make_part-object-requires-clause-room
make_part-object-requires-clause-room c = (c.requires.room.0, omega (arith, c.requires.room.1))

pub keep_scopes-requires : goal.keep_scopes-requires
keep_scopes-requires c =
    let l = c.args.l.now in
    let n = length (slots_of l (layout_of l (parts.Global c.args.script)).0) in
    record {
      room = room_on c.args.store.now _ (global_object l c.args.script ∷ []) 1 (n + 1) 0 1 c.make_part-object.ensures.heap c.requires.room (omega arith)
          (omega (arith, opened_cells l (parts.Global c.args.script) (Some hosts.Object) (whats.Global c.args.script)));
    }

pub returns : goal.returns
returns c = global_entered c.args.l.now c.args.store.now _ _ c.args.script c.make_part-object.result c.make_part-object.ensures.number c.make_part-object.ensures.heap c.keep_scopes.ensures.heap
