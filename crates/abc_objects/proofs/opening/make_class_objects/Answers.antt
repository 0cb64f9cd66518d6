use Rattle.std.proofs.Common.{sym}
use Rattle.abc_objects.specs.Opening.{host_class_object}
use Rattle.abc_objects.proofs.Steps.{class_room, no_objects, step_on}
use Rattle.abc_objects.proofs.opening.make_class_objects.Goals as goal

pub loop-class-init : goal.loop-class-init
loop-class-init c = sym (no_objects c.args.store.now)

pub make_class_object-requires-clause-room : goal.make_class_object-requires-clause-room
make_class_object-requires-clause-room c = class_room c.args.l.now c.args.store.now _ c.args.classes.now c.loop-class.class-index c.linked_law.ensures c.loop-class-test.true c.loop-class.invariant c.requires.room

pub loop-class-preserved : goal.loop-class-preserved
loop-class-preserved c = step_on (host_class_object c.args.l.now) c.args.store.now _ _ c.args.classes.now c.loop-class.class-index _ c.loop-class-test.true c.loop-class.invariant c.make_class_object.ensures
