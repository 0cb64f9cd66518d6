use Rattle.std.proofs.Common.{◌≡◌, ◌++◌, take}
use Rattle.std.specs.List.{flat_map}
use Rattle.abc_link_names.specs.Methods.{methods_of_instance}
use Rattle.abc_link_rules.proofs.methods.push_instances.Given as goal

abbrev pub invariant-loop-instance : goal.invariant-loop-instance
invariant-loop-instance l = l.list.items ≡ l.initial.list.items ++ flat_map methods_of_instance (take l.instance-index l.instance-items)
