use Rattle.std.proofs.Common.{◌≡◌, take}
use Rattle.abc_link.specs.OwnSlots.{own_slots_before}
use Rattle.abc_link.proofs.slots.slots_of_layouts.Given as goal

abbrev pub invariant-loop-x : goal.invariant-loop-x
invariant-loop-x l = l.rows ≡ own_slots_before l.abc (take l.x l.layouts.parts)
