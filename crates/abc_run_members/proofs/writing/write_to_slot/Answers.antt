use Rattle.std.proofs.Common.{rules, ◌∙◌, ap, subst}
use Rattle.std.specs.Prelude.{Bool}
use Rattle.abc_run_names.proofs.Slotted.{write_within}
use Rattle.abc_run_state.specs.Outer.{setting_in, world}
use Rattle.abc_run_state.specs.Stops.{IsOpen}
use Rattle.abc_run_members.specs.Members.{slot_written_if}
use Rattle.abc_run_members.proofs.writing.write_to_slot.Goals as goal

pub write_slot-requires : goal.write_slot-requires
write_slot-requires g c = (
  search rules,
  (
    (let p = setting_in c.args.linked.now g.out in
        let w = world c.args.s.now g.out in
        write_within p c.args.o c.args.slot c.args.v w c.requires.0 c.requires.1.0 (subst (λ (b : Bool). IsOpen (slot_written_if b p c.args.o c.args.slot c.args.v w)) c.if-allowed.true c.requires.1.1.1)),
    search rules,
  ),
)

pub returns-then-allowed-clause-part : goal.returns-then-allowed-clause-part
returns-then-allowed-clause-part g c =
    let p = setting_in c.args.linked.now g.out in
    let w = world c.args.s.now g.out in
    ap (λ (b : Bool). slot_written_if b p c.args.o c.args.slot c.args.v w) c.if-allowed.true ∙ c.write_slot.ensures.part
