use Rattle.std.proofs.Common.{rules, ◌∙◌, ap, subst}
use Rattle.std.proofs.lemmas.Result.{err_from_is_err_and}
use Rattle.abc_heap_values.specs.declared.values.Value.{Value}
use Rattle.abc_frames.specs.Frame.{newest}
use Rattle.abc_run_state.specs.Outer.{setting_in, world}
use Rattle.abc_run_state.specs.Settling.{settles_how}
use Rattle.abc_run_state.specs.Stops.{IsOpen, why}
use Rattle.abc_run_state.specs.Turns.{turn_of}
use Rattle.abc_meaning.specs.Members.{writes_to}
use Rattle.abc_run_members.specs.Members.{writes_on}
use Rattle.abc_run_members.proofs.Cases.{writes_halt, writes_refused}
use Rattle.abc_run_members.proofs.Settled.{came_halts}
use Rattle.abc_run_members.proofs.naming.write_on.Goals as goal

pub write_on_object-requires : goal.write_on_object-requires
write_on_object-requires g c = (
  record {
    set = search rules;
    known = search rules;
    free =
        let p = setting_in c.args.linked.now g.out in
        let w = world c.args.s.now g.out in
        subst (λ (v : Value). IsOpen (writes_on p v c.args.name.now c.args.x c.args.initial c.args.how (newest c.args.s.now.frames) w)) c.in-Obj.is c.requires.0.free;
  },
  search rules,
)

pub returns-in-Obj : goal.returns-in-Obj
returns-in-Obj g c = record {
  runs =
      let p = setting_in c.args.linked.now g.out in
      let q = c.args.s.now.frames in
      let w = world c.args.s.now g.out in
      ap (λ (v : Value). turn_of p q (writes_on p v c.args.name.now c.args.x c.args.initial c.args.how (newest q) w)) c.in-Obj.is ∙ c.write_on_object.ensures.runs;
  limit = search rules;
}

pub returns-in_default : goal.returns-in_default
returns-in_default g c = record {
  runs =
      let p = setting_in c.args.linked.now g.out in
      let q = c.args.s.now.frames in
      let w = world c.args.s.now g.out in
      came_halts p q (settles_how c.args.how (newest q)) (writes_to p c.args.v c.args.name.now c.args.x c.args.initial) w w _ (writes_refused p c.args.v c.args.name.now c.args.x c.args.initial w (λ o e. c.in_default.not-Obj o e) (c.in_ok-is_holder.ensures w));
  limit = search rules;
}

pub returns-in_err-is_holder : goal.returns-in_err-is_holder
returns-in_err-is_holder g c = record {
  runs =
      let p = setting_in c.args.linked.now g.out in
      let q = c.args.s.now.frames in
      let w = world c.args.s.now g.out in
      let e = err_from_is_err_and c.from_residual.result c.from_residual.ensures.1 in
      rw (e.1, e.2) (came_halts p q (settles_how c.args.how (newest q)) (writes_to p c.args.v c.args.name.now c.args.x c.args.initial) w w (why c.in_err-is_holder.field-0.0) (writes_halt p c.args.v c.args.name.now c.args.x c.args.initial w w (why c.in_err-is_holder.field-0.0) (c.in_err-is_holder.ensures w)));
  limit = search rules;
}
