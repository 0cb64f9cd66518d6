use Rattle.std.proofs.Common.{◌≡◌, ◌++◌, take}
use Rattle.abc_link_names.specs.Owners.{namings_among}
use Rattle.abc_link_layouts.proofs.namings.push_table.Given as goal

abbrev pub invariant-loop-info : goal.invariant-loop-info
invariant-loop-info l = l.list ≡ l.initial.list ++ namings_among l.owner (take l.info-index l.table)
