use Rattle.std.proofs.Common.{◌≡◌, ◌++◌, map, take}
use Rattle.abc_base.specs.Names.{class_name}
use Rattle.abc_objects.proofs.texts.push_class_names.Given as goal

abbrev pub invariant-loop-class : goal.invariant-loop-class
invariant-loop-class v = v.names ≡ v.initial.names ++ map class_name (take v.class-index v.classes)
