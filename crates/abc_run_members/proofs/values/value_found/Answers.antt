use Rattle.std.proofs.Common.{rules, ◌∙◌, subst}
use Rattle.abc_run_state.specs.Outer.{setting_in, world}
use Rattle.abc_run_state.specs.Stops.{IsOpen}
use Rattle.abc_run_members.proofs.Cases.{slot_at}
use Rattle.abc_run_members.proofs.values.value_found.Goals as goal

pub slot_of-requires : goal.slot_of-requires
slot_of-requires g c = (
  search rules,
  (let p = setting_in c.args.linked.now g.out in
      let w = world c.args.s.now g.out in
      subst IsOpen (slot_at p c.args.found c.in-Slot.slot _ c.args.v w c.in-Slot.is) c.requires.1.1.1),
)

pub returns-in-Slot-clause-part : goal.returns-in-Slot-clause-part
returns-in-Slot-clause-part g c =
    let p = setting_in c.args.linked.now g.out in
    let w = world c.args.s.now g.out in
    slot_at p c.args.found c.in-Slot.slot _ c.args.v w c.in-Slot.is ∙ c.slot_of.ensures.part
