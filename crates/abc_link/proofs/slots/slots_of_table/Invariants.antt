use Rattle.std.proofs.Common.{◌≡◌, ◌≤◌, ◌++◌, drop}
use Rattle.abc_link.specs.OwnSlots.{slots_before, slots_from}
use Rattle.abc_link.proofs.slots.slots_of_table.Given as goal

abbrev pub invariant-loop-info : goal.invariant-loop-info
invariant-loop-info l = record {
  few : l.count ≤ l.info-index;
  same : l.before ++ slots_from l.count (drop l.info-index l.traits) ≡ slots_before l.traits;
}
