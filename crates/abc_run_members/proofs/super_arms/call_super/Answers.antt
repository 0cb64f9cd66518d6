use Rattle.std.proofs.Common.{rules, ◌∙◌, ℕ, ap, arith, subst, sym}
use Rattle.std.proofs.lemmas.Result.{err_from_is_err_and}
use Rattle.abc_frames.specs.Ready.{HasFrameRoom}
use Rattle.abc_objects.specs.declared.name.Name.{Name}
use Rattle.abc_frames.specs.Frame.{Frame, arguments, newest}
use Rattle.abc_run_state.proofs.Keeping.{set_stays}
use Rattle.abc_run_members.proofs.Parts.{few_parts, known_stays, limit_stays, next_open, next_turns, part_halts, part_open, ready_stays, value_stays}
use Rattle.abc_run_names.specs.Named.{name_form_at, named_here}
use Rattle.abc_run_names.proofs.Forms.{has_parts}
use Rattle.abc_run_state.specs.Outer.{setting_in, world}
use Rattle.abc_run_state.specs.Settling.{given_by_how, settles_how, taken_by}
use Rattle.abc_run_state.specs.Stops.{IsOpen, why}
use Rattle.abc_run_state.specs.Turns.{turn_of_answer, turn_of}
use Rattle.abc_run_members.specs.Supers.{calls_super_on}
use Rattle.abc_run_members.proofs.SupersAbove.{calls_as}
use Rattle.abc_run_members.proofs.super_arms.call_super.Goals as goal

pub overflow_add-count : goal.overflow_add-count
overflow_add-count g c = let few = few_parts (name_form_at (setting_in c.args.linked.now g.out) c.args.name) in omega (arith, few, c.parts_of-parts.ensures g.out, c.requires.1.1.0)

pub operand-v-requires : goal.operand-v-requires
operand-v-requires g c = omega (arith, c.requires.1.0.operands, c.parts_of-parts.ensures g.out)

pub name_of-requires : goal.name_of-requires
name_of-requires g c = (
  c.requires.0.set,
  (
    c.requires.1.1.0,
    (
      (has_parts (name_form_at (setting_in c.args.linked.now g.out) c.args.name) c.args.count (newest c.args.s.now.frames) (omega (arith, c.requires.1.0.operands))),
      (let l = c.args.linked.now in
          let p = setting_in l g.out in
          let q = c.args.s.now.frames in
          let f = newest q in
          let w = world c.args.s.now g.out in
          let m = named_here p c.args.name c.args.count f in
          let k = λ (r : Frame) (name : Name). calls_super_on p c.args.from.0 c.operand-v.result name (arguments c.args.count r) in
          let after = λ (r : Frame). settles_how c.args.how r in
          let said = calls_as p c.args.name c.parts_of-parts.result c.args.from.0 c.args.count c.operand-v.result c.args.how f w (c.parts_of-parts.ensures g.out) c.operand-v.ensures.is in
          part_open m (k f) (after f) w (subst IsOpen said c.requires.0.free)),
    ),
  ),
)

pub call_super_on-requires : goal.call_super_on-requires
call_super_on-requires g c = (
  record {
    set = (set_stays c.args.linked.now c.args.s.now c.name_of.new.s c.in_ok-wanted.ensures.stays c.requires.0.set);
    known = (known_stays c.args.linked.now c.args.s.now c.name_of.new.s c.in_ok-wanted.ensures.stays c.requires.0.known);
    free =
        let l = c.args.linked.now in
        let p = setting_in l g.out in
        let q = c.args.s.now.frames in
        let f = newest q in
        let w = world c.args.s.now g.out in
        let m = named_here p c.args.name c.args.count f in
        let k = λ (r : Frame) (name : Name). calls_super_on p c.args.from.0 c.operand-v.result name (arguments c.args.count r) in
        let after = λ (r : Frame). settles_how c.args.how r in
        let said = calls_as p c.args.name c.parts_of-parts.result c.args.from.0 c.args.count c.operand-v.result c.args.how f w (c.parts_of-parts.ensures g.out) c.operand-v.ensures.is in
        next_open q c.name_of.new.s.frames m k after w (world c.name_of.new.s g.out) c.in_ok-wanted.wanted c.in_ok-wanted.ensures.part c.in_ok-wanted.ensures.stays.frames (subst IsOpen said c.requires.0.free);
  },
  ((ready_stays (taken_by c.args.how) (given_by_how c.args.how) c.args.s.now.frames c.name_of.new.s.frames c.in_ok-wanted.ensures.stays.frames (subst (λ (n : ℕ). HasFrameRoom n (given_by_how c.args.how) c.args.s.now.frames) (sym c.requires.1.1.1.0) c.requires.1.0)), (omega (arith, c.requires.1.1.1.0), (c.requires.1.1.1.1, ((value_stays c.args.linked.now c.args.s.now c.name_of.new.s c.operand-v.result c.in_ok-wanted.ensures.stays (c.operand-v.ensures.there c.args.linked.now c.args.s.now.arena c.requires.0.set.frame.stack)), c.in_ok-wanted.ensures.there)))),
)

pub returns : goal.returns
returns g c = record {
  leaves =
      let l = c.args.linked.now in
      let p = setting_in l g.out in
      let q = c.args.s.now.frames in
      let f = newest q in
      let w = world c.args.s.now g.out in
      let m = named_here p c.args.name c.args.count f in
      let k = λ (r : Frame) (name : Name). calls_super_on p c.args.from.0 c.operand-v.result name (arguments c.args.count r) in
      let after = λ (r : Frame). settles_how c.args.how r in
      let said = calls_as p c.args.name c.parts_of-parts.result c.args.from.0 c.args.count c.operand-v.result c.args.how f w (c.parts_of-parts.ensures g.out) c.operand-v.ensures.is in
      ap (turn_of p q) said
      ∙ next_turns p q c.name_of.new.s.frames m k after w (world c.name_of.new.s g.out) c.in_ok-wanted.wanted (turn_of_answer p c.call_super_on.result (world c.call_super_on.new.s g.out) c.call_super_on.new.s.frames) c.in_ok-wanted.ensures.part c.in_ok-wanted.ensures.stays.frames c.call_super_on.ensures.leaves;
  finishes = search rules;
  limit = c.call_super_on.ensures.limit ∙ limit_stays c.args.linked.now c.args.s.now c.name_of.new.s c.in_ok-wanted.ensures.stays;
}

pub returns-in_err-wanted : goal.returns-in_err-wanted
returns-in_err-wanted g c = record {
  leaves =
      let l = c.args.linked.now in
      let p = setting_in l g.out in
      let q = c.args.s.now.frames in
      let f = newest q in
      let w = world c.args.s.now g.out in
      let m = named_here p c.args.name c.args.count f in
      let k = λ (r : Frame) (name : Name). calls_super_on p c.args.from.0 c.operand-v.result name (arguments c.args.count r) in
      let after = λ (r : Frame). settles_how c.args.how r in
      let said = calls_as p c.args.name c.parts_of-parts.result c.args.from.0 c.args.count c.operand-v.result c.args.how f w (c.parts_of-parts.ensures g.out) c.operand-v.ensures.is in
      let e = err_from_is_err_and c.from_residual.result c.from_residual.ensures.1 in
      rw (e.1, e.2) (ap (turn_of p q) said ∙ part_halts p q c.name_of.new.s.frames m (k f) (after f) w (world c.name_of.new.s g.out) (why c.in_err-wanted.field-0.0) c.in_err-wanted.ensures.part c.in_err-wanted.ensures.stays.frames);
  finishes = search rules;
  limit = limit_stays c.args.linked.now c.args.s.now c.name_of.new.s c.in_err-wanted.ensures.stays;
}
