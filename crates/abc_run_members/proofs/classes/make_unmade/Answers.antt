use Rattle.std.proofs.Common.{rules, ◌∙◌, ap, subst, sym}
use Rattle.std.specs.declared.option.Option.{Option}
use Rattle.std.proofs.lemmas.Result.{err_from_is_err_and}
use Rattle.abc_link_names.specs.declared.named.Named.{Named}
use Rattle.abc_frames.specs.Frame.{Frames, newest}
use Rattle.abc_meaning.specs.Newing.{base_prototype}
use Rattle.abc_run_state.proofs.Keeping.{set_stays}
use Rattle.abc_run_members.proofs.Staying.{known_stays, limit_stays, ready_stays}
use Rattle.abc_run_state.specs.Outer.{setting_in, world}
use Rattle.abc_run_state.specs.Stops.{IsOpen, why}
use Rattle.abc_run_state.specs.Turns.{Halts, bare_newest, turn_of}
use Rattle.abc_run_members.specs.Scoped.{enters_class}
use Rattle.abc_run_members.proofs.Started.{base_stops, class_enters, class_stops}
use Rattle.abc_run_members.proofs.classes.make_unmade.Goals as goal

pub base_prototype-requires-clause-value : goal.base_prototype-requires-clause-value
base_prototype-requires-clause-value g c = c.operand-v.ensures.there c.args.linked.now c.args.s.now.arena c.requires.0.set.frame.stack

pub enter_class-requires : goal.enter_class-requires
enter_class-requires g c = (
  record {
    set = (set_stays c.args.linked.now c.args.s.now c.make_class.new.s c.in_ok-made.ensures.stays c.requires.0.set);
    known = (known_stays c.args.linked.now c.args.s.now c.make_class.new.s c.in_ok-made.ensures.stays c.requires.0.known);
    free =
        let p = setting_in c.args.linked.now g.out in
        let f = newest c.args.s.now.frames in
        let w = world c.args.s.now g.out in
        let b = world c.make_class.new.s g.out in
        let base = ap (λ (o : Option Named). base_prototype o c.operand-v.result w) c.base_of-base.ensures.is ∙ c.in_ok-prototype.ensures.part g.out in
        subst (λ (q : Frames). IsOpen (enters_class p c.args.class c.in_ok-made.made (newest q) b)) (sym c.in_ok-made.ensures.stays.frames)
        (subst IsOpen (class_enters p c.args.class f c.operand-v.result w c.operand-v.ensures.is w b c.in_ok-prototype.prototype c.in_ok-made.made base (c.in_ok-made.ensures.part g.out)) c.requires.0.free);
  },
  ((ready_stays 1 1 c.args.s.now.frames c.make_class.new.s.frames c.in_ok-made.ensures.stays.frames c.requires.1.0), c.requires.1.1.0),
)

pub returns : goal.returns
returns g c = record {
  runs =
      let p = setting_in c.args.linked.now g.out in
      let q = c.args.s.now.frames in
      let f = newest q in
      let w = world c.args.s.now g.out in
      let b = world c.make_class.new.s g.out in
      let base = ap (λ (o : Option Named). base_prototype o c.operand-v.result w) c.base_of-base.ensures.is ∙ c.in_ok-prototype.ensures.part g.out in
      ap (turn_of p q) (class_enters p c.args.class f c.operand-v.result w c.operand-v.ensures.is w b c.in_ok-prototype.prototype c.in_ok-made.made base (c.in_ok-made.ensures.part g.out))
      ∙ ap (λ (r : Frames). turn_of p r (enters_class p c.args.class c.in_ok-made.made (newest r) b)) (sym c.in_ok-made.ensures.stays.frames)
      ∙ c.enter_class.ensures.runs;
  limit = c.enter_class.ensures.limit ∙ limit_stays c.args.linked.now c.args.s.now c.make_class.new.s c.in_ok-made.ensures.stays;
}

pub returns-in_err-prototype : goal.returns-in_err-prototype
returns-in_err-prototype g c = record {
  runs =
      let p = setting_in c.args.linked.now g.out in
      let q = c.args.s.now.frames in
      let f = newest q in
      let w = world c.args.s.now g.out in
      let base = ap (λ (o : Option Named). base_prototype o c.operand-v.result w) c.base_of-base.ensures.is ∙ c.in_err-prototype.ensures.part g.out in
      let e = err_from_is_err_and c.from_residual.result c.from_residual.ensures.1 in
      rw (e.1, e.2) (ap (turn_of p q) (base_stops p c.args.class f c.operand-v.result w c.operand-v.ensures.is w (why c.in_err-prototype.field-0.0) base));
  limit = search rules;
}

pub returns-in_err-made : goal.returns-in_err-made
returns-in_err-made g c = record {
  runs =
      let p = setting_in c.args.linked.now g.out in
      let q = c.args.s.now.frames in
      let f = newest q in
      let w = world c.args.s.now g.out in
      let b = world c.make_class.new.s g.out in
      let base = ap (λ (o : Option Named). base_prototype o c.operand-v.result w) c.base_of-base.ensures.is ∙ c.in_ok-prototype.ensures.part g.out in
      let e = err_from_is_err_and c.from_residual-in_err-made.result c.from_residual-in_err-made.ensures.1 in
      rw (e.1, e.2) (ap (turn_of p q) (class_stops p c.args.class f c.operand-v.result w c.operand-v.ensures.is w b c.in_ok-prototype.prototype (why c.in_err-made.field-0.0) base (c.in_err-made.ensures.part g.out))
      ∙ ap (λ (r : Frames). Halts b (bare_newest r) (why c.in_err-made.field-0.0)) (sym c.in_err-made.ensures.stays.frames));
  limit = limit_stays c.args.linked.now c.args.s.now c.make_class.new.s c.in_err-made.ensures.stays;
}
