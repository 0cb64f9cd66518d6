use Rattle.std.proofs.Common.{◌≡◌, map, take}
use Rattle.abc_objects.specs.Opening.{prototype_object, with_objects}
use Rattle.abc_objects.proofs.opening.make_prototypes.Given as goal

abbrev pub invariant-loop-class : goal.invariant-loop-class
invariant-loop-class v = v.store ≡ with_objects (map (prototype_object v.l) (take v.class-index v.classes)) v.initial.store
