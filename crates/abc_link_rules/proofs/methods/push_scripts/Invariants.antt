use Rattle.std.proofs.Common.{◌≡◌, ◌++◌, take}
use Rattle.std.specs.List.{flat_map}
use Rattle.abc_link_names.specs.Methods.{methods_of_script}
use Rattle.abc_link_rules.proofs.methods.push_scripts.Given as goal

abbrev pub invariant-loop-script : goal.invariant-loop-script
invariant-loop-script l = l.list.items ≡ l.initial.list.items ++ flat_map methods_of_script (take l.script-index l.script-items)
