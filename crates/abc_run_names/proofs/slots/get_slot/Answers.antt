use Rattle.std.proofs.Common.{rules, ◌∙◌, ℕ, ap, refl, subst}
use Rattle.std.specs.Prelude.{slice_get}
use Rattle.std.proofs.lemmas.Result.{err_from_is_err_and}
use Rattle.abc_heap_values.specs.declared.values.ObjId.{ObjId}
use Rattle.abc_heap_values.specs.declared.values.Value.{Value}
use Rattle.abc_heap_store.specs.Heap.{Object, slots_of_object}
use Rattle.abc_objects.specs.Values.{Exists}
use Rattle.abc_frames.specs.Frame.{newest}
use Rattle.abc_run_state.proofs.Pushing.{pushes_on, pushes_stopped}
use Rattle.abc_run_state.specs.Operands.{operand_at}
use Rattle.abc_run_state.specs.Outer.{setting_in, world}
use Rattle.abc_run_state.specs.Stops.{IsOpen, why}
use Rattle.abc_meaning.specs.World.{Run, some}
use Rattle.abc_run_names.specs.Numbered.{on_numbered}
use Rattle.abc_run_names.proofs.Receiving.{pushes_open}
use Rattle.abc_run_names.proofs.Slotted.{has_number, held_within, numbered_at, numbered_stopped, open_receiver}
use Rattle.abc_run_names.proofs.slots.get_slot.Goals as goal

abbrev held : ObjId → Object → ℕ → Run Value
held o ob k = some (slice_get ob.slots k)

pub receiver-requires : goal.receiver-requires
receiver-requires g c =
    let p = setting_in c.args.linked.now g.out in
    let f = newest c.args.s.now.frames in
    let w = world c.args.s.now g.out in
    open_receiver p c.args.number held c.operand-v.result (operand_at 0 f) w c.operand-v.ensures.is (pushes_open (on_numbered p c.args.number (operand_at 0 f) held) 1 f w c.requires.1.1)

pub place_of-k-requires-clause-object : goal.place_of-k-requires-clause-object
place_of-k-requires-clause-object g c =
    let l = c.args.linked.now in
    let h = c.args.s.now.arena in
    subst (Exists l h) c.in_ok-o.ensures.object (c.operand-v.ensures.there l h c.requires.0.frame.stack)

pub place_of-k-requires-clause-slot : goal.place_of-k-requires-clause-slot
place_of-k-requires-clause-slot g c =
    let l = c.args.linked.now in
    let p = setting_in l g.out in
    let f = newest c.args.s.now.frames in
    let h = c.args.s.now.arena in
    let w = world c.args.s.now g.out in
    let there = subst (Exists l h) c.in_ok-o.ensures.object (c.operand-v.ensures.there l h c.requires.0.frame.stack) in
    has_number p c.args.number held c.operand-v.result (operand_at 0 f) w c.operand-v.ensures.is c.in_ok-o.o c.in_ok-o.ensures.object there (pushes_open (on_numbered p c.args.number (operand_at 0 f) held) 1 f w c.requires.1.1)

pub slot-held-requires : goal.slot-held-requires
slot-held-requires g c =
    let l = c.args.linked.now in
    let p = setting_in l g.out in
    let f = newest c.args.s.now.frames in
    let h = c.args.s.now.arena in
    let w = world c.args.s.now g.out in
    let there = subst (Exists l h) c.in_ok-o.ensures.object (c.operand-v.ensures.there l h c.requires.0.frame.stack) in
    let at = numbered_at p c.args.number held c.operand-v.result (operand_at 0 f) w c.operand-v.ensures.is c.in_ok-o.o c.in_ok-o.ensures.object c.place_of-k.result there c.place_of-k.ensures in
    held_within (slots_of_object h.objects c.in_ok-o.o.0) c.place_of-k.result w (subst IsOpen at (pushes_open (on_numbered p c.args.number (operand_at 0 f) held) 1 f w c.requires.1.1))

pub returns : goal.returns
returns g c = record {
  runs =
      let l = c.args.linked.now in
      let p = setting_in l g.out in
      let q = c.args.s.now.frames in
      let f = newest q in
      let h = c.args.s.now.arena in
      let w = world c.args.s.now g.out in
      let there = subst (Exists l h) c.in_ok-o.ensures.object (c.operand-v.ensures.there l h c.requires.0.frame.stack) in
      let at = numbered_at p c.args.number held c.operand-v.result (operand_at 0 f) w c.operand-v.ensures.is c.in_ok-o.o c.in_ok-o.ensures.object c.place_of-k.result there c.place_of-k.ensures in
      pushes_on p q q c.finish.new.frames 1 (on_numbered p c.args.number (operand_at 0 f) held) w w c.slot-held.result (at ∙ ap (λ x. some x w) c.slot-held.ensures) refl c.finish.ensures;
  limit = search rules;
}

pub returns-in_err-o : goal.returns-in_err-o
returns-in_err-o g c = record {
  runs =
      let p = setting_in c.args.linked.now g.out in
      let q = c.args.s.now.frames in
      let f = newest q in
      let w = world c.args.s.now g.out in
      let e = err_from_is_err_and c.from_residual.result c.from_residual.ensures.1 in
      rw (e.1, e.2) (pushes_stopped p q q 1 (on_numbered p c.args.number (operand_at 0 f) held) w w c.in_err-o.field-0.0
      (numbered_stopped p c.args.number held c.operand-v.result (operand_at 0 f) w c.operand-v.ensures.is (why c.in_err-o.field-0.0) (c.in_err-o.ensures.is w)) refl);
  limit = search rules;
}
