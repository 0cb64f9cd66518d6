use Rattle.std.proofs.Common.{rules, ◌+◌, ◌∙◌, ap, arith, subst, sym}
use Rattle.std.proofs.lemmas.Result.{err_from_is_err_and}
use Rattle.abc_run_state.proofs.Keeping.{set_stays}
use Rattle.abc_frames.specs.Ready.{HasFrameRoom}
use Rattle.abc_run_names.proofs.Forms.{has_parts}
use Rattle.abc_run_names.specs.Named.{name_form_at, named_here}
use Rattle.abc_objects.specs.declared.name.Name.{Name}
use Rattle.abc_frames.specs.Frame.{Frame, newest}
use Rattle.abc_run_state.specs.Outer.{setting_in, world}
use Rattle.abc_run_state.specs.Settling.{settles_how}
use Rattle.abc_run_state.specs.Stops.{IsOpen, why}
use Rattle.abc_run_state.specs.Operands.{operand_at}
use Rattle.abc_run_state.specs.Turns.{turn_of}
use Rattle.abc_run_state.specs.declared.state.How.TheVariants.{Drop}
use Rattle.abc_meaning.specs.Members.{writes_to}
use Rattle.abc_run_members.proofs.Parts.{sets_as, few_parts, known_stays, limit_stays, next_open, next_turns, part_halts, part_open, ready_stays, value_stays}
use Rattle.abc_run_members.proofs.searching.set_property.Goals as goal

pub overflow_add-parts : goal.overflow_add-parts
overflow_add-parts g c = let few = few_parts (name_form_at (setting_in c.args.linked.now g.out) c.args.name) in omega (arith, few, c.parts_of-parts.ensures g.out)

pub operand-x-requires : goal.operand-x-requires
operand-x-requires g c = omega (arith, c.parts_of-parts.ensures g.out, c.requires.1.operands)

pub operand-v-requires : goal.operand-v-requires
operand-v-requires g c = omega (arith, c.parts_of-parts.ensures g.out, c.requires.1.operands)

pub name_of-requires : goal.name_of-requires
name_of-requires g c = (
  search rules,
  (
    search rules,
    (
      (has_parts (name_form_at (setting_in c.args.linked.now g.out) c.args.name) 1 (newest c.args.s.now.frames) (omega (arith, c.requires.1.operands))),
      (let p = setting_in c.args.linked.now g.out in
          let f = newest c.args.s.now.frames in
          let w = world c.args.s.now g.out in
          part_open (named_here p c.args.name 1 f) (λ (name : Name). writes_to p c.operand-v.result name c.operand-x.result c.args.initial) (settles_how (Drop (c.parts_of-parts.result + 2)) f) w (subst IsOpen (sets_as p c.args.name c.parts_of-parts.result c.operand-v.result c.operand-x.result c.args.initial f w (c.parts_of-parts.ensures g.out) c.operand-v.ensures.is c.operand-x.ensures.is) c.requires.0.free)),
    ),
  ),
)

pub write_on-requires : goal.write_on-requires
write_on-requires g c = (
  record {
    set = (set_stays c.args.linked.now c.args.s.now c.name_of.new.s c.in_ok-wanted.ensures.stays c.requires.0.set);
    known = (known_stays c.args.linked.now c.args.s.now c.name_of.new.s c.in_ok-wanted.ensures.stays c.requires.0.known);
    free =
        let p = setting_in c.args.linked.now g.out in
        let q = c.args.s.now.frames in
        let f = newest q in
        let w = world c.args.s.now g.out in
        next_open q c.name_of.new.s.frames (named_here p c.args.name 1 f) (λ (f : Frame). λ (name : Name). writes_to p c.operand-v.result name c.operand-x.result c.args.initial) (λ (f : Frame). settles_how (Drop (c.parts_of-parts.result + 2)) f) w (world c.name_of.new.s g.out) c.in_ok-wanted.wanted c.in_ok-wanted.ensures.part c.in_ok-wanted.ensures.stays.frames
        (subst IsOpen (sets_as p c.args.name c.parts_of-parts.result c.operand-v.result c.operand-x.result c.args.initial f w (c.parts_of-parts.ensures g.out) c.operand-v.ensures.is c.operand-x.ensures.is) c.requires.0.free);
  },
  ((let e = c.parts_of-parts.ensures g.out in subst (λ n. HasFrameRoom (n + 2) 0 c.name_of.new.s.frames) (sym e) (ready_stays _ 0 c.args.s.now.frames c.name_of.new.s.frames c.in_ok-wanted.ensures.stays.frames c.requires.1)), (search rules, ((value_stays c.args.linked.now c.args.s.now c.name_of.new.s c.operand-v.result c.in_ok-wanted.ensures.stays (c.operand-v.ensures.there c.args.linked.now c.args.s.now.arena c.requires.0.set.frame.stack)), (search rules, ((value_stays c.args.linked.now c.args.s.now c.name_of.new.s c.operand-x.result c.in_ok-wanted.ensures.stays (c.operand-x.ensures.there c.args.linked.now c.args.s.now.arena c.requires.0.set.frame.stack)), (c.operand-x.ensures.is ∙ ap (λ q. operand_at 0 (newest q)) (sym c.in_ok-wanted.ensures.stays.frames))))))),
)

pub returns : goal.returns
returns g c = record {
  runs =
      let p = setting_in c.args.linked.now g.out in
      let q = c.args.s.now.frames in
      let f = newest q in
      let w = world c.args.s.now g.out in
      ap (turn_of p q) (sets_as p c.args.name c.parts_of-parts.result c.operand-v.result c.operand-x.result c.args.initial f w (c.parts_of-parts.ensures g.out) c.operand-v.ensures.is c.operand-x.ensures.is)
      ∙ next_turns p q c.name_of.new.s.frames (named_here p c.args.name 1 f) (λ (f : Frame). λ (name : Name). writes_to p c.operand-v.result name c.operand-x.result c.args.initial) (λ (f : Frame). settles_how (Drop (c.parts_of-parts.result + 2)) f) w (world c.name_of.new.s g.out) c.in_ok-wanted.wanted _ c.in_ok-wanted.ensures.part c.in_ok-wanted.ensures.stays.frames c.write_on.ensures.runs;
  limit = c.write_on.ensures.limit ∙ limit_stays c.args.linked.now c.args.s.now c.name_of.new.s c.in_ok-wanted.ensures.stays;
}

pub returns-in_err-wanted : goal.returns-in_err-wanted
returns-in_err-wanted g c = record {
  runs =
      let p = setting_in c.args.linked.now g.out in
      let q = c.args.s.now.frames in
      let f = newest q in
      let w = world c.args.s.now g.out in
      let e = err_from_is_err_and c.from_residual.result c.from_residual.ensures.1 in
      rw (e.1, e.2) (ap (turn_of p q) (sets_as p c.args.name c.parts_of-parts.result c.operand-v.result c.operand-x.result c.args.initial f w (c.parts_of-parts.ensures g.out) c.operand-v.ensures.is c.operand-x.ensures.is)
      ∙ part_halts p q c.name_of.new.s.frames (named_here p c.args.name 1 f) (λ (name : Name). writes_to p c.operand-v.result name c.operand-x.result c.args.initial) (settles_how (Drop (c.parts_of-parts.result + 2)) f) w (world c.name_of.new.s g.out) (why c.in_err-wanted.field-0.0) c.in_err-wanted.ensures.part c.in_err-wanted.ensures.stays.frames);
  limit = limit_stays c.args.linked.now c.args.s.now c.name_of.new.s c.in_err-wanted.ensures.stays;
}
