use Rattle.std.proofs.Common.{◌≡◌, ◌∙◌, ap}
use Rattle.abc_heap_values.specs.declared.values.Value.TheVariants as values
use Rattle.abc_link_names.specs.declared.types.Owner.{Owner}
use Rattle.abc_objects.specs.Searches.{found_on}
use Rattle.abc_objects.specs.declared.found.Found.TheVariants as founds
use Rattle.abc_lookup.proofs.OwnFirst.{method_first, slot_first}
use Rattle.abc_lookup.proofs.at_once.first_as.Goals as goal

pub returns-in-Slot : goal.returns-in-Slot
returns-in-Slot c = λ want. slot_first c.args.l.now c.args.a.now c.args.o c.args.name.now want c.args.x.0 c.in-Slot.slot c.in-Slot.constant c.args.member c.linked_law.ensures c.requires.part c.requires.layout c.in-Slot.is c.requires.member

pub returns-in-Method : goal.returns-in-Method
returns-in-Method c = λ want.
    ap (λ (w : Owner). founds.Method w c.in-Method.method) c.owner.ensures
    ∙ method_first c.args.l.now c.args.a.now c.args.o c.args.name.now want c.args.x.0 c.in-Method.method c.args.member c.linked_law.ensures c.requires.part c.requires.layout c.in-Method.is c.requires.member
