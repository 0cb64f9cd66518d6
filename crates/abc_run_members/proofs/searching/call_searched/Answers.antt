use Rattle.std.proofs.Common.{rules, ◌∙◌, ap, arith, subst, sym}
use Rattle.std.proofs.lemmas.Result.{err_from_is_err_and}
use Rattle.abc_run_state.proofs.Keeping.{set_stays}
use Rattle.abc_frames.specs.Ready.{HasFrameRoom}
use Rattle.abc_run_names.proofs.Forms.{has_parts}
use Rattle.abc_run_names.specs.Named.{name_form_at, named_here}
use Rattle.abc_objects.specs.declared.name.Name.{Name}
use Rattle.abc_frames.specs.Frame.{Frame, arguments, newest}
use Rattle.abc_run_state.specs.Outer.{setting_in, world}
use Rattle.abc_run_state.specs.Settling.{given_by_how, settles_how}
use Rattle.abc_run_state.specs.Stops.{IsOpen, why}
use Rattle.abc_run_state.specs.Turns.{turn_of}
use Rattle.abc_meaning.specs.Members.{calls_name}
use Rattle.abc_run_members.proofs.Parts.{calls_as, few_parts, known_stays, limit_stays, next_open, next_turns, part_halts, part_open, ready_stays, value_stays}
use Rattle.abc_run_members.proofs.searching.call_searched.Goals as goal

pub overflow_add-count : goal.overflow_add-count
overflow_add-count g c = let few = few_parts (name_form_at (setting_in c.args.linked.now g.out) c.args.name) in omega (arith, few, c.parts_of-parts.ensures g.out, c.requires.1.1.0)

pub operand-v-requires : goal.operand-v-requires
operand-v-requires g c = omega (arith, c.parts_of-parts.ensures g.out, c.requires.1.0.operands)

pub name_of-requires : goal.name_of-requires
name_of-requires g c = (
  search rules,
  (
    search rules,
    (
      (has_parts (name_form_at (setting_in c.args.linked.now g.out) c.args.name) c.args.count (newest c.args.s.now.frames) (omega (arith, c.requires.1.0.operands))),
      (let p = setting_in c.args.linked.now g.out in
          let f = newest c.args.s.now.frames in
          let w = world c.args.s.now g.out in
          part_open (named_here p c.args.name c.args.count f) (λ (name : Name). calls_name p c.operand-v.result c.receiver_for-receiver.result name (arguments c.args.count f)) (settles_how c.args.how f) w (subst IsOpen (calls_as p c.args.name c.parts_of-parts.result c.args.count c.operand-v.result c.receiver_for-receiver.result c.args.lexical c.args.how f w (c.parts_of-parts.ensures g.out) c.operand-v.ensures.is c.receiver_for-receiver.ensures) c.requires.0.free)),
    ),
  ),
)

pub call_on-requires : goal.call_on-requires
call_on-requires g c = (
  record {
    set = (set_stays c.args.linked.now c.args.s.now c.name_of.new.s c.in_ok-wanted.ensures.stays c.requires.0.set);
    known = (known_stays c.args.linked.now c.args.s.now c.name_of.new.s c.in_ok-wanted.ensures.stays c.requires.0.known);
    free =
        let p = setting_in c.args.linked.now g.out in
        let q = c.args.s.now.frames in
        let f = newest q in
        let w = world c.args.s.now g.out in
        next_open q c.name_of.new.s.frames (named_here p c.args.name c.args.count f) (λ (f : Frame). λ (name : Name). calls_name p c.operand-v.result c.receiver_for-receiver.result name (arguments c.args.count f)) (λ (f : Frame). settles_how c.args.how f) w (world c.name_of.new.s g.out) c.in_ok-wanted.wanted c.in_ok-wanted.ensures.part c.in_ok-wanted.ensures.stays.frames
        (subst IsOpen (calls_as p c.args.name c.parts_of-parts.result c.args.count c.operand-v.result c.receiver_for-receiver.result c.args.lexical c.args.how f w (c.parts_of-parts.ensures g.out) c.operand-v.ensures.is c.receiver_for-receiver.ensures) c.requires.0.free);
  },
  ((subst (λ n. HasFrameRoom n (given_by_how c.args.how) c.name_of.new.s.frames) (sym c.requires.1.1.1) (ready_stays _ (given_by_how c.args.how) c.args.s.now.frames c.name_of.new.s.frames c.in_ok-wanted.ensures.stays.frames c.requires.1.0)), ((omega (arith, c.requires.1.1.1)), ((value_stays c.args.linked.now c.args.s.now c.name_of.new.s c.operand-v.result c.in_ok-wanted.ensures.stays (c.operand-v.ensures.there c.args.linked.now c.args.s.now.arena c.requires.0.set.frame.stack)), search rules))),
)

pub returns : goal.returns
returns g c = record {
  leaves =
      let p = setting_in c.args.linked.now g.out in
      let q = c.args.s.now.frames in
      let f = newest q in
      let w = world c.args.s.now g.out in
      ap (turn_of p q) (calls_as p c.args.name c.parts_of-parts.result c.args.count c.operand-v.result c.receiver_for-receiver.result c.args.lexical c.args.how f w (c.parts_of-parts.ensures g.out) c.operand-v.ensures.is c.receiver_for-receiver.ensures)
      ∙ next_turns p q c.name_of.new.s.frames (named_here p c.args.name c.args.count f) (λ (f : Frame). λ (name : Name). calls_name p c.operand-v.result c.receiver_for-receiver.result name (arguments c.args.count f)) (λ (f : Frame). settles_how c.args.how f) w (world c.name_of.new.s g.out) c.in_ok-wanted.wanted _ c.in_ok-wanted.ensures.part c.in_ok-wanted.ensures.stays.frames c.call_on.ensures.leaves;
  finishes = search rules;
  limit = c.call_on.ensures.limit ∙ limit_stays c.args.linked.now c.args.s.now c.name_of.new.s c.in_ok-wanted.ensures.stays;
}

pub returns-in_err-wanted : goal.returns-in_err-wanted
returns-in_err-wanted g c = record {
  leaves =
      let p = setting_in c.args.linked.now g.out in
      let q = c.args.s.now.frames in
      let f = newest q in
      let w = world c.args.s.now g.out in
      let e = err_from_is_err_and c.from_residual.result c.from_residual.ensures.1 in
      rw (e.1, e.2) (ap (turn_of p q) (calls_as p c.args.name c.parts_of-parts.result c.args.count c.operand-v.result c.receiver_for-receiver.result c.args.lexical c.args.how f w (c.parts_of-parts.ensures g.out) c.operand-v.ensures.is c.receiver_for-receiver.ensures)
      ∙ part_halts p q c.name_of.new.s.frames (named_here p c.args.name c.args.count f) (λ (name : Name). calls_name p c.operand-v.result c.receiver_for-receiver.result name (arguments c.args.count f)) (settles_how c.args.how f) w (world c.name_of.new.s g.out) (why c.in_err-wanted.field-0.0) c.in_err-wanted.ensures.part c.in_err-wanted.ensures.stays.frames);
  finishes = search rules;
  limit = limit_stays c.args.linked.now c.args.s.now c.name_of.new.s c.in_err-wanted.ensures.stays;
}
