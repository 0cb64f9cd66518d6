use Rattle.std.proofs.Common.{rules, ◌∙◌, ap, subst, sym}
use Rattle.std.specs.Prelude.{Bool}
use Rattle.abc_objects.specs.declared.found.Found.{Found}
use Rattle.abc_run_state.specs.Outer.{setting_in, world}
use Rattle.abc_run_state.specs.Stops.{IsOpen}
use Rattle.abc_run_members.specs.Members.{slot_written_if, value_written}
use Rattle.abc_run_members.proofs.Cases.{no_value}
use Rattle.abc_run_members.proofs.writing.write_value.Goals as goal

pub write_to_slot-requires : goal.write_to_slot-requires
write_to_slot-requires g c = (
  search rules,
  (
    search rules,
    (
      search rules,
      (let p = setting_in c.args.linked.now g.out in
          let w = world c.args.s.now g.out in
          subst (λ (b : Bool). IsOpen (slot_written_if b p c.args.o c.in-Slot.slot c.args.v w)) (sym c.may_write.ensures) (subst (λ (f : Found). IsOpen (value_written p c.args.o c.args.name.now c.args.v c.args.initial f w)) c.in-Slot.is c.requires.1.1.1.1)),
    ),
  ),
)

pub returns-in-Slot-clause-part : goal.returns-in-Slot-clause-part
returns-in-Slot-clause-part g c =
    let p = setting_in c.args.linked.now g.out in
    let w = world c.args.s.now g.out in
    ap (λ (f : Found). value_written p c.args.o c.args.name.now c.args.v c.args.initial f w) c.in-Slot.is
    ∙ ap (λ (b : Bool). slot_written_if b p c.args.o c.in-Slot.slot c.args.v w) (sym c.may_write.ensures)
    ∙ c.write_to_slot.ensures.part

pub returns-in-Missing-clause-part : goal.returns-in-Missing-clause-part
returns-in-Missing-clause-part g c =
    let p = setting_in c.args.linked.now g.out in
    let w = world c.args.s.now g.out in
    ap (λ (f : Found). value_written p c.args.o c.args.name.now c.args.v c.args.initial f w) c.in-Missing.is ∙ c.write_public.ensures.part g.out

pub unreachable-requires : goal.unreachable-requires
unreachable-requires g c =
    no_value (setting_in c.args.linked.now g.out) c.args.o c.args.name.now c.args.v c.args.initial c.args.found (world c.args.s.now g.out) (λ k d e. c.in_default.not-Slot k d e) (λ e. c.in_default.not-Missing e) (λ owner m e. c.in_default.not-Method owner m e) (λ e. c.in_default.not-WrongSide e) c.requires.1.1.1.1
