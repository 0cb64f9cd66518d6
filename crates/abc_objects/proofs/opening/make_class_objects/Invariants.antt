use Rattle.std.proofs.Common.{◌≡◌, map, take}
use Rattle.abc_objects.specs.Opening.{host_class_object, with_objects}
use Rattle.abc_objects.proofs.opening.make_class_objects.Given as goal

abbrev pub invariant-loop-class : goal.invariant-loop-class
invariant-loop-class v = v.store ≡ with_objects (map (host_class_object v.l) (take v.class-index v.classes)) v.initial.store
