use Rattle.std.proofs.Common.{rules, ◌+◌, ◌∙◌, ap, arith, subst, sym}
use Rattle.std.proofs.lemmas.Result.{err_from_is_err_and}
use Rattle.abc_run_state.proofs.Keeping.{set_stays}
use Rattle.abc_frames.specs.Ready.{HasFrameRoom}
use Rattle.abc_run_names.proofs.Forms.{has_parts}
use Rattle.abc_run_names.specs.Named.{name_form_at, named_here}
use Rattle.abc_frames.specs.Frame.{Frame, newest}
use Rattle.abc_run_state.specs.Outer.{setting_in, world}
use Rattle.abc_run_state.specs.Settling.{settles_how}
use Rattle.abc_run_state.specs.Stops.{IsOpen, why}
use Rattle.abc_run_state.specs.Turns.{turn_of}
use Rattle.abc_run_state.specs.declared.state.How.TheVariants.{Push}
use Rattle.abc_meaning.specs.Members.{reads}
use Rattle.abc_run_members.proofs.Parts.{gets_as, few_parts, known_stays, limit_stays, next_open, next_turns, part_halts, part_open, ready_stays, value_stays}
use Rattle.abc_run_members.proofs.searching.get_property.Goals as goal

pub overflow_add-parts : goal.overflow_add-parts
overflow_add-parts g c = let few = few_parts (name_form_at (setting_in c.args.linked.now g.out) c.args.name) in omega (arith, few, c.parts_of-parts.ensures g.out)

pub operand-v-requires : goal.operand-v-requires
operand-v-requires g c = omega (arith, c.parts_of-parts.ensures g.out, c.requires.1.operands)

pub name_of-requires : goal.name_of-requires
name_of-requires g c = (
  search rules,
  (
    search rules,
    (
      (has_parts (name_form_at (setting_in c.args.linked.now g.out) c.args.name) 0 (newest c.args.s.now.frames) (omega (arith, c.requires.1.operands))),
      (let p = setting_in c.args.linked.now g.out in
          let f = newest c.args.s.now.frames in
          let w = world c.args.s.now g.out in
          part_open (named_here p c.args.name 0 f) (reads p c.operand-v.result) (settles_how (Push (c.parts_of-parts.result + 1)) f) w (subst IsOpen (gets_as p c.args.name c.parts_of-parts.result c.operand-v.result f w (c.parts_of-parts.ensures g.out) c.operand-v.ensures.is) c.requires.0.free)),
    ),
  ),
)

pub read_on-requires : goal.read_on-requires
read_on-requires g c = (
  record {
    set = (set_stays c.args.linked.now c.args.s.now c.name_of.new.s c.in_ok-wanted.ensures.stays c.requires.0.set);
    known = (known_stays c.args.linked.now c.args.s.now c.name_of.new.s c.in_ok-wanted.ensures.stays c.requires.0.known);
    free =
        let p = setting_in c.args.linked.now g.out in
        let q = c.args.s.now.frames in
        let f = newest q in
        let w = world c.args.s.now g.out in
        next_open q c.name_of.new.s.frames (named_here p c.args.name 0 f) (λ (f : Frame). reads p c.operand-v.result) (λ (f : Frame). settles_how (Push (c.parts_of-parts.result + 1)) f) w (world c.name_of.new.s g.out) c.in_ok-wanted.wanted c.in_ok-wanted.ensures.part c.in_ok-wanted.ensures.stays.frames
        (subst IsOpen (gets_as p c.args.name c.parts_of-parts.result c.operand-v.result f w (c.parts_of-parts.ensures g.out) c.operand-v.ensures.is) c.requires.0.free);
  },
  ((let e = c.parts_of-parts.ensures g.out in subst (λ n. HasFrameRoom (n + 1) 1 c.name_of.new.s.frames) (sym e) (ready_stays _ 1 c.args.s.now.frames c.name_of.new.s.frames c.in_ok-wanted.ensures.stays.frames c.requires.1)), ((value_stays c.args.linked.now c.args.s.now c.name_of.new.s c.operand-v.result c.in_ok-wanted.ensures.stays (c.operand-v.ensures.there c.args.linked.now c.args.s.now.arena c.requires.0.set.frame.stack)), search rules)),
)

pub returns : goal.returns
returns g c = record {
  runs =
      let p = setting_in c.args.linked.now g.out in
      let q = c.args.s.now.frames in
      let f = newest q in
      let w = world c.args.s.now g.out in
      ap (turn_of p q) (gets_as p c.args.name c.parts_of-parts.result c.operand-v.result f w (c.parts_of-parts.ensures g.out) c.operand-v.ensures.is)
      ∙ next_turns p q c.name_of.new.s.frames (named_here p c.args.name 0 f) (λ (f : Frame). reads p c.operand-v.result) (λ (f : Frame). settles_how (Push (c.parts_of-parts.result + 1)) f) w (world c.name_of.new.s g.out) c.in_ok-wanted.wanted _ c.in_ok-wanted.ensures.part c.in_ok-wanted.ensures.stays.frames c.read_on.ensures.runs;
  limit = c.read_on.ensures.limit ∙ limit_stays c.args.linked.now c.args.s.now c.name_of.new.s c.in_ok-wanted.ensures.stays;
}

pub returns-in_err-wanted : goal.returns-in_err-wanted
returns-in_err-wanted g c = record {
  runs =
      let p = setting_in c.args.linked.now g.out in
      let q = c.args.s.now.frames in
      let f = newest q in
      let w = world c.args.s.now g.out in
      let e = err_from_is_err_and c.from_residual.result c.from_residual.ensures.1 in
      rw (e.1, e.2) (ap (turn_of p q) (gets_as p c.args.name c.parts_of-parts.result c.operand-v.result f w (c.parts_of-parts.ensures g.out) c.operand-v.ensures.is)
      ∙ part_halts p q c.name_of.new.s.frames (named_here p c.args.name 0 f) (reads p c.operand-v.result) (settles_how (Push (c.parts_of-parts.result + 1)) f) w (world c.name_of.new.s g.out) (why c.in_err-wanted.field-0.0) c.in_err-wanted.ensures.part c.in_err-wanted.ensures.stays.frames);
  limit = limit_stays c.args.linked.now c.args.s.now c.name_of.new.s c.in_err-wanted.ensures.stays;
}
