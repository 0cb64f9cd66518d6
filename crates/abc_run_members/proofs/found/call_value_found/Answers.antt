use Rattle.std.proofs.Common.{rules, refl}
use Rattle.std.proofs.lemmas.Result.{err_from_is_err_and}
use Rattle.abc_heap_values.specs.declared.values.Value.{Value}
use Rattle.abc_frames.specs.Frame.{Frame, arguments, newest}
use Rattle.abc_run_state.specs.Outer.{setting_in, world}
use Rattle.abc_run_state.specs.Settling.{settles_how}
use Rattle.abc_run_state.specs.Stops.{why}
use Rattle.abc_meaning.specs.Calling.{calls}
use Rattle.abc_meaning.specs.Members.{value_found}
use Rattle.abc_run_members.proofs.Parts.{next_open, next_turns, part_halts, part_open}
use Rattle.abc_run_members.proofs.found.call_value_found.Goals as goal

pub value_found-requires : goal.value_found-requires
value_found-requires g c = (
  search rules,
  (
    search rules,
    (
      search rules,
      (let p = setting_in c.args.linked.now g.out in
          let f = newest c.args.s.now.frames in
          part_open (value_found p c.args.found c.args.v) (λ x. calls p x c.args.receiver (arguments c.args.count f)) (settles_how c.args.how f) (world c.args.s.now g.out) c.requires.0.free),
    ),
  ),
)

pub call-requires : goal.call-requires
call-requires g c = (
  record {
    set = search rules;
    known = search rules;
    free = (let p = setting_in c.args.linked.now g.out in
        let q = c.args.s.now.frames in
        let w = world c.args.s.now g.out in
        next_open q q (value_found p c.args.found c.args.v) (λ (f : Frame) (x : Value). calls p x c.args.receiver (arguments c.args.count f)) (λ (f : Frame). settles_how c.args.how f) w w c.in_ok-callee.callee c.in_ok-callee.ensures.part refl c.requires.0.free);
  },
  (search rules, (search rules, (c.in_ok-callee.ensures.there))),
)

pub returns : goal.returns
returns g c = record {
  leaves =
      let p = setting_in c.args.linked.now g.out in
      let q = c.args.s.now.frames in
      let w = world c.args.s.now g.out in
      next_turns p q q (value_found p c.args.found c.args.v) (λ (f : Frame) (x : Value). calls p x c.args.receiver (arguments c.args.count f)) (λ (f : Frame). settles_how c.args.how f) w w c.in_ok-callee.callee _ c.in_ok-callee.ensures.part refl c.call.ensures.leaves;
  finishes = search rules;
  limit = search rules;
}

pub returns-in_err-callee : goal.returns-in_err-callee
returns-in_err-callee g c = record {
  leaves =
      let p = setting_in c.args.linked.now g.out in
      let q = c.args.s.now.frames in
      let w = world c.args.s.now g.out in
      let e = err_from_is_err_and c.from_residual.result c.from_residual.ensures.1 in
      rw (e.1, e.2) (part_halts p q q (value_found p c.args.found c.args.v) (λ x. calls p x c.args.receiver (arguments c.args.count (newest q))) (settles_how c.args.how (newest q)) w w (why c.in_err-callee.field-0.0) c.in_err-callee.ensures.part refl);
  finishes = search rules;
  limit = search rules;
}
