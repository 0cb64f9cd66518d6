use Rattle.std.proofs.Common.{rules, ◌∙◌, ℕ, ◌+◌, ap, subst, sym, arith}
use Rattle.std.proofs.lemmas.Result.{err_from_is_err_and}
use Rattle.abc_heap_values.specs.declared.values.Value.TheVariants.{Bool as Truth}
use Rattle.abc_frames.specs.Ready.{HasFrameRoom}
use Rattle.abc_objects.proofs.Grown.{exists_grown}
use Rattle.abc_frames.specs.Frame.{newest}
use Rattle.abc_run_state.proofs.Pushing.{pushes_on, pushes_stopped}
use Rattle.abc_run_state.specs.Operands.{operand_at}
use Rattle.abc_run_state.specs.Outer.{setting_in, world}
use Rattle.abc_run_state.specs.Stops.{why}
use Rattle.abc_run_names.specs.Named.{name_form_at, name_parts_count}
use Rattle.abc_run_names.proofs.Forms.{has_parts}
use Rattle.abc_run_names.proofs.Removed.{open_named, remove_named, remove_stopped, removed, removing}
use Rattle.abc_run_names.proofs.deleting.delete_property.Goals as goal

pub operand-v-requires : goal.operand-v-requires
operand-v-requires g c =
    let p = setting_in c.args.linked.now g.out in
    omega (arith, c.requires.1.0.operands, c.parts_of-parts.ensures g.out)

pub name_of-requires : goal.name_of-requires
name_of-requires g c = (
  c.requires.0,
  (
    omega arith,
    (
      (let p = setting_in c.args.linked.now g.out in
          has_parts (name_form_at p c.args.name) 0 (newest c.args.s.now.frames) (omega (arith, c.requires.1.0.operands))),
      (open_named (setting_in c.args.linked.now g.out) c.args.name (newest c.args.s.now.frames) (world c.args.s.now g.out) c.requires.1.1),
    ),
  ),
)

pub delete-requires-clause-value : goal.delete-requires-clause-value
delete-requires-clause-value g c =
    let l = c.args.linked.now in
    exists_grown l c.args.s.now.arena c.name_of.new.s.arena c.operand-v.result c.in_ok-wanted.ensures.stays.grows (c.operand-v.ensures.there l c.args.s.now.arena c.requires.0.frame.stack)

pub finish-requires : goal.finish-requires
finish-requires g c =
    let parts = c.parts_of-parts.ensures g.out in
    subst (HasFrameRoom (c.parts_of-parts.result + 1) 1) (sym (c.in_ok-is.ensures.stays.frames ∙ c.in_ok-wanted.ensures.stays.frames)) (subst (λ (n : ℕ). HasFrameRoom (n + 1) 1 c.args.s.now.frames) (sym parts) c.requires.1.0)

pub returns : goal.returns
returns g c = record {
  runs =
      let p = setting_in c.args.linked.now g.out in
      let q = c.args.s.now.frames in
      let f = newest q in
      let n = c.args.name in
      let w = world c.args.s.now g.out in
      let a = world c.name_of.new.s g.out in
      let b = world c.delete.new.s g.out in
      let is = c.operand-v.ensures.is ∙ ap (λ (k : ℕ). operand_at k f) (c.parts_of-parts.ensures g.out) in
      let done = pushes_on p q c.delete.new.s.frames _ (name_parts_count (name_form_at p n) + 1) (removing p n f) w b (Truth c.in_ok-is.is')
      (removed p n f c.operand-v.result w a b c.in_ok-wanted.wanted c.in_ok-is.is' is c.in_ok-wanted.ensures.part (c.in_ok-is.ensures.part g.out)) (c.in_ok-is.ensures.stays.frames ∙ c.in_ok-wanted.ensures.stays.frames) (c.finish.ensures ∙ ap (λ (k : ℕ). Rattle.abc_frames.specs.Frame.with_newest (Rattle.abc_frames.specs.Moves.after_finish (k + 1) (Truth c.in_ok-is.is')) c.delete.new.s.frames) (c.parts_of-parts.ensures g.out)) in
      done;
  limit = search rules;
}

pub returns-in_err-wanted : goal.returns-in_err-wanted
returns-in_err-wanted g c = record {
  runs =
      let p = setting_in c.args.linked.now g.out in
      let q = c.args.s.now.frames in
      let f = newest q in
      let n = c.args.name in
      let w = world c.args.s.now g.out in
      let a = world c.name_of.new.s g.out in
      let e = err_from_is_err_and c.from_residual.result c.from_residual.ensures.1 in
      rw (e.1, e.2) (pushes_stopped p q c.name_of.new.s.frames (name_parts_count (name_form_at p n) + 1) (removing p n f) w a c.in_err-wanted.field-0.0 (remove_named p n f w a (why c.in_err-wanted.field-0.0) c.in_err-wanted.ensures.part) c.in_err-wanted.ensures.stays.frames);
  limit = search rules;
}

pub returns-in_err-is : goal.returns-in_err-is
returns-in_err-is g c = record {
  runs =
      let p = setting_in c.args.linked.now g.out in
      let q = c.args.s.now.frames in
      let f = newest q in
      let n = c.args.name in
      let w = world c.args.s.now g.out in
      let a = world c.name_of.new.s g.out in
      let b = world c.delete.new.s g.out in
      let is = c.operand-v.ensures.is ∙ ap (λ (k : ℕ). operand_at k f) (c.parts_of-parts.ensures g.out) in
      let e = err_from_is_err_and c.from_residual-in_err-is.result c.from_residual-in_err-is.ensures.1 in
      rw (e.1, e.2) (pushes_stopped p q c.delete.new.s.frames (name_parts_count (name_form_at p n) + 1) (removing p n f) w b c.in_err-is.field-0.0
      (remove_stopped p n f c.operand-v.result w a b c.in_ok-wanted.wanted (why c.in_err-is.field-0.0) is c.in_ok-wanted.ensures.part (c.in_err-is.ensures.part g.out)) (c.in_err-is.ensures.stays.frames ∙ c.in_ok-wanted.ensures.stays.frames));
  limit = search rules;
}
