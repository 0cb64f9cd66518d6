use Rattle.std.proofs.Common.{◌∙◌, ◌+◌, ◌∷◌, [], ap, arith}
use Rattle.abc_heap_store.specs.declared.records.What.TheVariants as whats
use Rattle.abc_objects.specs.Opening.{formula_objects, function_object, with_objects}
use Rattle.abc_objects.proofs.Steps.{function_cell, objects_on, room_on}
use Rattle.abc_objects.proofs.opening.make_functions.Goals as goal

pub make_function-requires-clause-room : goal.make_function-requires-clause-room
make_function-requires-clause-room c = (omega (arith, c.requires.room.0), c.requires.room.1)

pub make_formulas-requires-clause-room : goal.make_formulas-requires-clause-room
make_formulas-requires-clause-room c =
    let one = function_object c.args.l.now whats.Trace in
    room_on c.args.store.now _ (one ∷ []) (c.args.formulas + 1) 0 c.args.formulas 0 c.make_function.ensures c.requires.room (omega arith) (omega (arith, function_cell c.args.l.now c.linked_law.ensures whats.Trace))

pub returns : goal.returns
returns c =
    let more = formula_objects c.args.l.now c.args.formulas in
    c.make_formulas.ensures ∙ (ap (with_objects more) c.make_function.ensures ∙ objects_on c.args.store.now (function_object c.args.l.now whats.Trace ∷ []) more)
