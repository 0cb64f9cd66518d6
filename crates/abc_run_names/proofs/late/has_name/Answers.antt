use Rattle.std.proofs.Common.{rules, subst, sym}
use Rattle.std.proofs.lemmas.Result.{err_from_is_err_and}
use Rattle.abc_heap_values.specs.declared.values.Value.TheVariants.{Bool as Truth}
use Rattle.abc_frames.specs.Ready.{HasFrameRoom}
use Rattle.abc_objects.proofs.Grown.{exists_grown}
use Rattle.abc_frames.specs.Frame.{newest}
use Rattle.abc_run_state.proofs.Pushing.{pushes_on, pushes_stopped}
use Rattle.abc_run_state.specs.Operands.{operand_at}
use Rattle.abc_run_state.specs.Outer.{setting_in, world}
use Rattle.abc_run_state.specs.Stops.{why}
use Rattle.abc_run_names.specs.Late.{name_is_in}
use Rattle.abc_run_names.proofs.Typed.{in_found, in_refused, in_stops}
use Rattle.abc_run_names.proofs.late.has_name.Goals as goal

pub spell-requires : goal.spell-requires
spell-requires g c = (c.requires.0.over, (c.operand-name.ensures.there c.args.linked.now c.args.s.now.arena c.requires.0.frame.stack))

pub find_public-found-requires-clause-object : goal.find_public-found-requires-clause-object
find_public-found-requires-clause-object g c =
    let l = c.args.linked.now in
    exists_grown l c.args.s.now.arena c.spell.new.s.arena c.operand-object.result c.in_ok-text.ensures.stays.grows (c.operand-object.ensures.there l c.args.s.now.arena c.requires.0.frame.stack)

pub finish-requires : goal.finish-requires
finish-requires g c = subst (HasFrameRoom 2 1) (sym c.in_ok-text.ensures.stays.frames) c.requires.1

pub returns : goal.returns
returns g c = record {
  runs =
      let p = setting_in c.args.linked.now g.out in
      let q = c.args.s.now.frames in
      let f = newest q in
      let w = world c.args.s.now g.out in
      let u = world c.spell.new.s g.out in
      pushes_on p q c.spell.new.s.frames c.finish.new.frames 2 (name_is_in p (operand_at 1 f) (operand_at 0 f)) w u (Truth c.is_found.result)
      (in_found p c.operand-name.result (operand_at 1 f) c.operand-object.result (operand_at 0 f) w u c.in_ok-text.text c.find_public-found.result c.is_found.result c.operand-name.ensures.is c.operand-object.ensures.is c.in_ok-text.ensures.part (c.in_ok-is_holder.ensures u) c.find_public-found.ensures c.is_found.ensures)
      c.in_ok-text.ensures.stays.frames c.finish.ensures;
  limit = search rules;
}

pub returns-in_err-text : goal.returns-in_err-text
returns-in_err-text g c = record {
  runs =
      let p = setting_in c.args.linked.now g.out in
      let q = c.args.s.now.frames in
      let f = newest q in
      let w = world c.args.s.now g.out in
      let u = world c.spell.new.s g.out in
      let e = err_from_is_err_and c.from_residual.result c.from_residual.ensures.1 in
      rw (e.1, e.2) (pushes_stopped p q c.spell.new.s.frames 2 (name_is_in p (operand_at 1 f) (operand_at 0 f)) w u c.in_err-text.field-0.0
      (in_stops p c.operand-name.result (operand_at 1 f) c.operand-object.result (operand_at 0 f) w u (why c.in_err-text.field-0.0) c.operand-name.ensures.is c.operand-object.ensures.is c.in_err-text.ensures.part) c.in_err-text.ensures.stays.frames);
  limit = search rules;
}

pub returns-in_err-is_holder : goal.returns-in_err-is_holder
returns-in_err-is_holder g c = record {
  runs =
      let p = setting_in c.args.linked.now g.out in
      let q = c.args.s.now.frames in
      let f = newest q in
      let w = world c.args.s.now g.out in
      let u = world c.spell.new.s g.out in
      let e = err_from_is_err_and c.from_residual-in_err-is_holder.result c.from_residual-in_err-is_holder.ensures.1 in
      rw (e.1, e.2) (pushes_stopped p q c.spell.new.s.frames 2 (name_is_in p (operand_at 1 f) (operand_at 0 f)) w u c.in_err-is_holder.field-0.0
      (in_refused p c.operand-name.result (operand_at 1 f) c.operand-object.result (operand_at 0 f) w u c.in_ok-text.text (why c.in_err-is_holder.field-0.0) c.operand-name.ensures.is c.operand-object.ensures.is c.in_ok-text.ensures.part (c.in_err-is_holder.ensures u)) c.in_ok-text.ensures.stays.frames);
  limit = search rules;
}
