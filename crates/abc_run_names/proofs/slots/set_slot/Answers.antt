use Rattle.std.proofs.Common.{rules, ◌∙◌, ℕ, ap, refl, subst, sym}
use Rattle.std.proofs.lemmas.Result.{err_from_is_err_and}
use Rattle.abc_heap_values.specs.declared.values.ObjId.{ObjId}
use Rattle.abc_heap_values.specs.declared.values.Value.{Value}
use Rattle.abc_heap_store.specs.Heap.{Object}
use Rattle.abc_frames.specs.Ready.{HasFrameRoom}
use Rattle.abc_objects.specs.Values.{Exists}
use Rattle.abc_frames.specs.Frame.{Frame, after_drop, newest}
use Rattle.abc_meaning.specs.At.{goes, next_frame}
use Rattle.abc_run_state.specs.Operands.{operand_at}
use Rattle.abc_run_state.specs.Outer.{setting_in, world}
use Rattle.abc_run_state.specs.Stops.{IsOpen, why}
use Rattle.abc_run_state.proofs.Turning.{open_first}
use Rattle.abc_meaning.specs.Members.{write_slot}
use Rattle.abc_meaning.specs.Setting.{Setting}
use Rattle.abc_meaning.specs.World.{Run, World}
use Rattle.abc_run_names.specs.Numbered.{on_numbered, writes_numbered}
use Rattle.abc_run_names.proofs.Slotted.{drops_on, drops_stopped, has_number, numbered_at, numbered_stopped, open_receiver, write_within}
use Rattle.abc_run_names.proofs.slots.set_slot.Goals as goal

abbrev writes : Setting → Frame → ObjId → Object → ℕ → Run (Unit {0})
writes p f o ob k = write_slot p o k (operand_at 0 f)

open_writes : (p : Setting) (n : ℕ) (f : Frame) (w : World) → IsOpen (writes_numbered p n f w) → IsOpen (on_numbered p n (operand_at 1 f) (writes p f) w)
open_writes p n f w h = open_first (on_numbered p n (operand_at 1 f) (writes p f) w) (λ u. goes (next_frame (after_drop 2 f))) h

pub receiver-requires : goal.receiver-requires
receiver-requires g c =
    let p = setting_in c.args.linked.now g.out in
    let f = newest c.args.s.now.frames in
    let w = world c.args.s.now g.out in
    open_receiver p c.args.number (writes p f) c.operand-v.result (operand_at 1 f) w c.operand-v.ensures.is (open_writes p c.args.number f w c.requires.1.1)

pub place_of-k-requires-clause-object : goal.place_of-k-requires-clause-object
place_of-k-requires-clause-object g c =
    let l = c.args.linked.now in
    let h = c.args.s.now.arena in
    subst (Exists l h) c.in_ok-o.ensures.object (c.operand-v.ensures.there l h c.requires.0.frame.stack)

pub place_of-k-requires-clause-slot : goal.place_of-k-requires-clause-slot
place_of-k-requires-clause-slot g c =
    let l = c.args.linked.now in
    let p = setting_in l g.out in
    let f = newest c.args.s.now.frames in
    let h = c.args.s.now.arena in
    let w = world c.args.s.now g.out in
    let there = subst (Exists l h) c.in_ok-o.ensures.object (c.operand-v.ensures.there l h c.requires.0.frame.stack) in
    has_number p c.args.number (writes p f) c.operand-v.result (operand_at 1 f) w c.operand-v.ensures.is c.in_ok-o.o c.in_ok-o.ensures.object there (open_writes p c.args.number f w c.requires.1.1)

pub write_slot-requires : goal.write_slot-requires
write_slot-requires g c = (
  c.requires.0.over,
  (
    (let l = c.args.linked.now in
        let p = setting_in l g.out in
        let f = newest c.args.s.now.frames in
        let h = c.args.s.now.arena in
        let w = world c.args.s.now g.out in
        let there = subst (Exists l h) c.in_ok-o.ensures.object (c.operand-v.ensures.there l h c.requires.0.frame.stack) in
        let at = numbered_at p c.args.number (writes p f) c.operand-v.result (operand_at 1 f) w c.operand-v.ensures.is c.in_ok-o.o c.in_ok-o.ensures.object c.place_of-k.result there c.place_of-k.ensures in
        write_within p c.in_ok-o.o c.place_of-k.result (operand_at 0 f) w c.requires.0.over there (subst IsOpen at (open_writes p c.args.number f w c.requires.1.1))),
    (c.operand-x.ensures.there c.args.linked.now c.args.s.now.arena c.requires.0.frame.stack),
  ),
)

pub drop_and_go-requires : goal.drop_and_go-requires
drop_and_go-requires g c = subst (HasFrameRoom 2 0) (sym c.in_ok-write_slot.ensures.stays.frames) c.requires.1.0

pub returns : goal.returns
returns g c = record {
  runs =
      let l = c.args.linked.now in
      let p = setting_in l g.out in
      let q = c.args.s.now.frames in
      let f = newest q in
      let h = c.args.s.now.arena in
      let w = world c.args.s.now g.out in
      let there = subst (Exists l h) c.in_ok-o.ensures.object (c.operand-v.ensures.there l h c.requires.0.frame.stack) in
      let at = numbered_at p c.args.number (writes p f) c.operand-v.result (operand_at 1 f) w c.operand-v.ensures.is c.in_ok-o.o c.in_ok-o.ensures.object c.place_of-k.result there c.place_of-k.ensures in
      drops_on p q c.write_slot.new.s.frames c.drop_and_go.new.frames 2 (on_numbered p c.args.number (operand_at 1 f) (writes p f)) w (world c.write_slot.new.s g.out)
      (at ∙ ap (λ (x : Value). write_slot p c.in_ok-o.o c.place_of-k.result x w) (sym c.operand-x.ensures.is) ∙ c.in_ok-write_slot.ensures.part) c.in_ok-write_slot.ensures.stays.frames c.drop_and_go.ensures;
  limit = search rules;
}

pub returns-in_err-o : goal.returns-in_err-o
returns-in_err-o g c = record {
  runs =
      let p = setting_in c.args.linked.now g.out in
      let q = c.args.s.now.frames in
      let f = newest q in
      let w = world c.args.s.now g.out in
      let e = err_from_is_err_and c.from_residual.result c.from_residual.ensures.1 in
      rw (e.1, e.2) (drops_stopped p q q 2 (on_numbered p c.args.number (operand_at 1 f) (writes p f)) w w c.in_err-o.field-0.0
      (numbered_stopped p c.args.number (writes p f) c.operand-v.result (operand_at 1 f) w c.operand-v.ensures.is (why c.in_err-o.field-0.0) (c.in_err-o.ensures.is w)) refl);
  limit = search rules;
}

pub returns-in_err-write_slot : goal.returns-in_err-write_slot
returns-in_err-write_slot g c = record {
  runs =
      let l = c.args.linked.now in
      let p = setting_in l g.out in
      let q = c.args.s.now.frames in
      let f = newest q in
      let h = c.args.s.now.arena in
      let w = world c.args.s.now g.out in
      let there = subst (Exists l h) c.in_ok-o.ensures.object (c.operand-v.ensures.there l h c.requires.0.frame.stack) in
      let at = numbered_at p c.args.number (writes p f) c.operand-v.result (operand_at 1 f) w c.operand-v.ensures.is c.in_ok-o.o c.in_ok-o.ensures.object c.place_of-k.result there c.place_of-k.ensures in
      let e = err_from_is_err_and c.from_residual-in_err-write_slot.result c.from_residual-in_err-write_slot.ensures.1 in
      rw (e.1, e.2) (drops_stopped p q c.write_slot.new.s.frames 2 (on_numbered p c.args.number (operand_at 1 f) (writes p f)) w (world c.write_slot.new.s g.out) c.in_err-write_slot.field-0.0
      (at ∙ ap (λ (x : Value). write_slot p c.in_ok-o.o c.place_of-k.result x w) (sym c.operand-x.ensures.is) ∙ c.in_err-write_slot.ensures.part) c.in_err-write_slot.ensures.stays.frames);
  limit = search rules;
}
