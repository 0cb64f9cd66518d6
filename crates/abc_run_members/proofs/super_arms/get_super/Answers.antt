use Rattle.std.proofs.Common.{◌∙◌, ℕ, ◌+◌, ap, arith, subst, sym}
use Rattle.std.proofs.lemmas.Result.{err_from_is_err_and}
use Rattle.abc_frames.specs.Ready.{HasFrameRoom}
use Rattle.abc_objects.specs.declared.name.Name.{Name}
use Rattle.abc_frames.specs.Frame.{Frame, newest}
use Rattle.abc_run_state.proofs.Keeping.{set_stays}
use Rattle.abc_run_members.proofs.Parts.{few_parts, known_stays, limit_stays, next_open, next_turns, part_halts, part_open, ready_stays, value_stays}
use Rattle.abc_run_names.specs.Named.{name_form_at, named_here}
use Rattle.abc_run_names.proofs.Forms.{has_parts}
use Rattle.abc_run_state.specs.Outer.{setting_in, world}
use Rattle.abc_run_state.specs.Settling.{settles_how}
use Rattle.abc_run_state.specs.Stops.{IsOpen, why}
use Rattle.abc_run_state.specs.Turns.{turn_of, went}
use Rattle.abc_run_state.specs.declared.state.How.TheVariants.{Push}
use Rattle.abc_run_members.specs.Supers.{super_read}
use Rattle.abc_run_members.proofs.SupersAbove.{gets_as}
use Rattle.abc_run_members.proofs.super_arms.get_super.Goals as goal

pub overflow_add-parts : goal.overflow_add-parts
overflow_add-parts g c = let few = few_parts (name_form_at (setting_in c.args.linked.now g.out) c.args.name) in omega (arith, few, c.parts_of-parts.ensures g.out)

pub operand-v-requires : goal.operand-v-requires
operand-v-requires g c = omega (arith, c.requires.1.0.operands, c.parts_of-parts.ensures g.out)

pub name_of-requires : goal.name_of-requires
name_of-requires g c = (
  c.requires.0.set,
  (
    omega arith,
    (
      (has_parts (name_form_at (setting_in c.args.linked.now g.out) c.args.name) 0 (newest c.args.s.now.frames) (omega (arith, c.requires.1.0.operands))),
      (let l = c.args.linked.now in
          let p = setting_in l g.out in
          let q = c.args.s.now.frames in
          let f = newest q in
          let w = world c.args.s.now g.out in
          let m = named_here p c.args.name 0 f in
          let k = λ (r : Frame) (name : Name). super_read p c.args.from.0 c.operand-v.result name in
          let after = λ (r : Frame). settles_how (Push (c.parts_of-parts.result + 1)) r in
          let said = gets_as p c.args.name c.parts_of-parts.result c.args.from.0 c.operand-v.result f w (c.parts_of-parts.ensures g.out) c.operand-v.ensures.is in
          part_open m (k f) (after f) w (subst IsOpen said c.requires.0.free)),
    ),
  ),
)

pub read_super-requires : goal.read_super-requires
read_super-requires g c = (
  record {
    set = (set_stays c.args.linked.now c.args.s.now c.name_of.new.s c.in_ok-wanted.ensures.stays c.requires.0.set);
    known = (known_stays c.args.linked.now c.args.s.now c.name_of.new.s c.in_ok-wanted.ensures.stays c.requires.0.known);
    free =
        let l = c.args.linked.now in
        let p = setting_in l g.out in
        let q = c.args.s.now.frames in
        let f = newest q in
        let w = world c.args.s.now g.out in
        let m = named_here p c.args.name 0 f in
        let k = λ (r : Frame) (name : Name). super_read p c.args.from.0 c.operand-v.result name in
        let after = λ (r : Frame). settles_how (Push (c.parts_of-parts.result + 1)) r in
        let said = gets_as p c.args.name c.parts_of-parts.result c.args.from.0 c.operand-v.result f w (c.parts_of-parts.ensures g.out) c.operand-v.ensures.is in
        next_open q c.name_of.new.s.frames m k after w (world c.name_of.new.s g.out) c.in_ok-wanted.wanted c.in_ok-wanted.ensures.part c.in_ok-wanted.ensures.stays.frames (subst IsOpen said c.requires.0.free);
  },
  ((ready_stays (c.parts_of-parts.result + 1) 1 c.args.s.now.frames c.name_of.new.s.frames c.in_ok-wanted.ensures.stays.frames (subst (λ (n : ℕ). HasFrameRoom (n + 1) 1 c.args.s.now.frames) (sym (c.parts_of-parts.ensures g.out)) c.requires.1.0)), (c.requires.1.1, ((value_stays c.args.linked.now c.args.s.now c.name_of.new.s c.operand-v.result c.in_ok-wanted.ensures.stays (c.operand-v.ensures.there c.args.linked.now c.args.s.now.arena c.requires.0.set.frame.stack)), c.in_ok-wanted.ensures.there))),
)

pub returns : goal.returns
returns g c = record {
  runs =
      let l = c.args.linked.now in
      let p = setting_in l g.out in
      let q = c.args.s.now.frames in
      let f = newest q in
      let w = world c.args.s.now g.out in
      let m = named_here p c.args.name 0 f in
      let k = λ (r : Frame) (name : Name). super_read p c.args.from.0 c.operand-v.result name in
      let after = λ (r : Frame). settles_how (Push (c.parts_of-parts.result + 1)) r in
      let said = gets_as p c.args.name c.parts_of-parts.result c.args.from.0 c.operand-v.result f w (c.parts_of-parts.ensures g.out) c.operand-v.ensures.is in
      ap (turn_of p q) said
      ∙ next_turns p q c.name_of.new.s.frames m k after w (world c.name_of.new.s g.out) c.in_ok-wanted.wanted (went c.read_super.result (world c.read_super.new.s g.out) c.read_super.new.s.frames) c.in_ok-wanted.ensures.part c.in_ok-wanted.ensures.stays.frames c.read_super.ensures.runs;
  limit = c.read_super.ensures.limit ∙ limit_stays c.args.linked.now c.args.s.now c.name_of.new.s c.in_ok-wanted.ensures.stays;
}

pub returns-in_err-wanted : goal.returns-in_err-wanted
returns-in_err-wanted g c = record {
  runs =
      let l = c.args.linked.now in
      let p = setting_in l g.out in
      let q = c.args.s.now.frames in
      let f = newest q in
      let w = world c.args.s.now g.out in
      let m = named_here p c.args.name 0 f in
      let k = λ (r : Frame) (name : Name). super_read p c.args.from.0 c.operand-v.result name in
      let after = λ (r : Frame). settles_how (Push (c.parts_of-parts.result + 1)) r in
      let said = gets_as p c.args.name c.parts_of-parts.result c.args.from.0 c.operand-v.result f w (c.parts_of-parts.ensures g.out) c.operand-v.ensures.is in
      let e = err_from_is_err_and c.from_residual.result c.from_residual.ensures.1 in
      rw (e.1, e.2) (ap (turn_of p q) said ∙ part_halts p q c.name_of.new.s.frames m (k f) (after f) w (world c.name_of.new.s g.out) (why c.in_err-wanted.field-0.0) c.in_err-wanted.ensures.part c.in_err-wanted.ensures.stays.frames);
  limit = limit_stays c.args.linked.now c.args.s.now c.name_of.new.s c.in_err-wanted.ensures.stays;
}
