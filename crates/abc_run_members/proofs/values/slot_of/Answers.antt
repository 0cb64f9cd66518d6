use Rattle.std.proofs.Common.{◌≡◌, subst, sym}
use Rattle.abc_heap_values.specs.declared.values.Value.{Value}
use Rattle.abc_run_state.specs.Outer.{world}
use Rattle.abc_run_state.specs.Stops.{IsOpen}
use Rattle.abc_meaning.specs.World.{Went}
use Rattle.abc_run_members.specs.Members.{slot_on}
use Rattle.abc_run_members.proofs.Places.{place_is, place_open, slot_there}
use Rattle.abc_run_members.proofs.Cases.{slot_object}
use Rattle.abc_run_members.proofs.values.slot_of.Goals as goal

pub slot-requires : goal.slot-requires
slot-requires g c = let w = world c.args.s.now g.out in place_open (λ ob. ob.slots) c.in-Obj.o c.args.slot w (subst (λ (v : Value). IsOpen (slot_on v c.args.slot w)) c.in-Obj.is c.requires.1)

pub returns-clause-part : goal.returns-clause-part
returns-clause-part g c =
    let w = world c.args.s.now g.out in
    let free = subst (λ (v : Value). IsOpen (slot_on v c.args.slot w)) c.in-Obj.is c.requires.1 in
    subst (λ (v : Value). slot_on v c.args.slot w ≡ Went w c.slot.result) (sym c.in-Obj.is) (place_is (λ ob. ob.slots) c.in-Obj.o c.args.slot c.slot.result w free c.slot.ensures)

pub returns-clause-there : goal.returns-clause-there
returns-clause-there g c =
    let w = world c.args.s.now g.out in
    slot_there c.args.linked.now c.in-Obj.o c.args.slot c.slot.result w c.requires.0 (subst (λ (v : Value). IsOpen (slot_on v c.args.slot w)) c.in-Obj.is c.requires.1) c.slot.ensures

pub unreachable-requires : goal.unreachable-requires
unreachable-requires g c = slot_object c.args.v c.args.slot (world c.args.s.now g.out) (λ o e. c.in_default.not-Obj o e) c.requires.1
