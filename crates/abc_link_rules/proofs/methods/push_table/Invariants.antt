use Rattle.std.proofs.Common.{◌≡◌, ◌++◌, take}
use Rattle.abc_link_names.specs.Methods.{methods_among}
use Rattle.abc_link_rules.proofs.methods.push_table.Given as goal

abbrev pub invariant-loop-info : goal.invariant-loop-info
invariant-loop-info l = l.list.items ≡ l.initial.list.items ++ methods_among (take l.info-index l.table)
