use Rattle.std.proofs.Common.{arith}
use Rattle.abc_objects.proofs.Steps.{function_slots}
use Rattle.abc_objects.proofs.opening.make_function.Goals as goal

pub make_part-requires-clause-room : goal.make_part-requires-clause-room
make_part-requires-clause-room c = (c.requires.room.0, omega (arith, c.requires.room.1, function_slots c.args.l.now c.linked_law.ensures))

pub returns : goal.returns
returns c = c.make_part.ensures.heap
