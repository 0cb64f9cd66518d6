use Rattle.std.proofs.Common.{◌≡◌, ◌++◌, take}
use Rattle.std.specs.List.{flat_map}
use Rattle.abc_link_names.specs.Methods.{methods_of_class}
use Rattle.abc_link_rules.proofs.methods.push_classes.Given as goal

abbrev pub invariant-loop-class : goal.invariant-loop-class
invariant-loop-class l = l.list.items ≡ l.initial.list.items ++ flat_map methods_of_class (take l.class-index l.class-items)
