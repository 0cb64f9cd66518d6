use Rattle.abc_objects.proofs.SlotsFound.{finds_a_slot, finds_own_slots}
use Rattle.abc_objects.proofs.laws.found_slot_is_there.Goals as goal

pub returns-clause-declared : goal.returns-clause-declared
returns-clause-declared c = finds_a_slot

pub returns-clause-on : goal.returns-clause-on
returns-clause-on c = finds_own_slots
