use Rattle.std.proofs.Common.{◌∙◌, ap, subst, sym}
use Rattle.std.specs.declared.option.Option.{Option}
use Rattle.abc_frames.specs.Frame.{newest}
use Rattle.abc_meaning.specs.Names.{name_by_form}
use Rattle.abc_run_state.specs.Outer.{setting_in, world}
use Rattle.abc_run_state.specs.Stops.{IsOpen}
use Rattle.abc_meaning.specs.Setting.{NameForm}
use Rattle.abc_run_names.specs.Form.{HasFormText}
use Rattle.abc_run_names.specs.Named.{HasNameParts, name_form_at, parts_for}
use Rattle.abc_run_names.proofs.Forms.{form_text}
use Rattle.abc_run_names.proofs.Naming.{none_open}
use Rattle.abc_run_names.proofs.runtime_names.name_of.Goals as goal

pub name_from-requires : goal.name_from-requires
name_from-requires g c = (
  c.requires.0,
  (
    c.requires.1.0,
    (
      (let p = setting_in c.args.linked.now g.out in
          subst (λ (o : Option NameForm). HasFormText c.args.linked.now.file.strings c.args.s.now.arena o) (sym (c.in-Some.ensures g.out)) (form_text p c.args.s.now.arena c.args.name)),
      (
        (subst (λ (o : Option NameForm). HasNameParts o c.args.above (newest c.args.s.now.frames)) (sym (c.in-Some.ensures g.out)) c.requires.1.1.0),
        (let p = setting_in c.args.linked.now g.out in
            subst (λ (o : Option NameForm). IsOpen (name_by_form p o (parts_for o c.args.above (newest c.args.s.now.frames)) (world c.args.s.now g.out))) (sym (c.in-Some.ensures g.out)) c.requires.1.1.1),
      ),
    ),
  ),
)

pub returns-clause-part : goal.returns-clause-part
returns-clause-part g c =
    let p = setting_in c.args.linked.now g.out in
    ap (λ (o : Option NameForm). name_by_form p o (parts_for o c.args.above (newest c.args.s.now.frames)) (world c.args.s.now g.out)) (sym (c.in-Some.ensures g.out)) ∙ c.name_from.ensures.part

pub unreachable-requires : goal.unreachable-requires
unreachable-requires g c =
    let p = setting_in c.args.linked.now g.out in
    none_open p (name_form_at p c.args.name) c.args.above (newest c.args.s.now.frames) (world c.args.s.now g.out) (c.in-None.ensures g.out) c.requires.1.1.1
