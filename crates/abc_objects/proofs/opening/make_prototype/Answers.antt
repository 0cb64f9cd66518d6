use Rattle.std.proofs.Common.{◌∙◌, ◌∷◌, [], ap, arith}
use Rattle.abc_base.specs.declared.names.HostClass.TheVariants as hosts
use Rattle.abc_heap_store.specs.declared.records.What.TheVariants as whats
use Rattle.abc_link_names.specs.declared.part.Part.TheVariants as parts
use Rattle.abc_objects.specs.Opening.{opening_object, with_objects}
use Rattle.abc_objects.proofs.Steps.{plain_slots}
use Rattle.abc_objects.proofs.opening.make_prototype.Goals as goal

pub make_part-requires-clause-room : goal.make_part-requires-clause-room
make_part-requires-clause-room c = (c.requires.room.0, omega (arith, c.requires.room.1, plain_slots c.args.l.now c.linked_law.ensures))

pub returns : goal.returns
returns c = c.make_part.ensures.heap ∙ ap (λ p. with_objects (opening_object c.args.l.now (parts.Host hosts.Object) p whats.Plain ∷ []) c.args.store.now) c.above_host-parent.ensures
