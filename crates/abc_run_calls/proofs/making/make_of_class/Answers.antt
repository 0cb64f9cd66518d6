use Rattle.std.proofs.Common.{rules, ◌∙◌, ap, subst, sym}
use Rattle.abc_frames.specs.Frame.{newest}
use Rattle.abc_run_state.specs.Outer.{setting_in, world}
use Rattle.abc_run_state.specs.Turns.{turn_of}
use Rattle.abc_run_calls.proofs.Told.{IsPlain, made_plain}
use Rattle.abc_run_calls.proofs.making.make_of_class.Goals as goal

pub returns-in-Object : goal.returns-in-Object
returns-in-Object g c = record {
  runs =
      let p = setting_in c.args.linked.now g.out in
      let q = c.args.s.now.frames in
      ap (turn_of p q) (made_plain p c.args.class_object c.args.class c.args.count c.args.how (newest q) (world c.args.s.now g.out) (subst IsPlain (sym c.in-Object.is) tt)) ∙ c.make_plain.ensures.runs;
  limit = search rules;
}

pub returns-in-Error : goal.returns-in-Error
returns-in-Error g c = record {
  runs =
      let p = setting_in c.args.linked.now g.out in
      let q = c.args.s.now.frames in
      ap (turn_of p q) (made_plain p c.args.class_object c.args.class c.args.count c.args.how (newest q) (world c.args.s.now g.out) (subst IsPlain (sym c.in-Error.is) tt)) ∙ c.make_plain-in-Error.ensures.runs;
  limit = search rules;
}

pub returns-in-TypeError : goal.returns-in-TypeError
returns-in-TypeError g c = record {
  runs =
      let p = setting_in c.args.linked.now g.out in
      let q = c.args.s.now.frames in
      ap (turn_of p q) (made_plain p c.args.class_object c.args.class c.args.count c.args.how (newest q) (world c.args.s.now g.out) (subst IsPlain (sym c.in-TypeError.is) tt)) ∙ c.make_plain-in-TypeError.ensures.runs;
  limit = search rules;
}

pub returns-in-ReferenceError : goal.returns-in-ReferenceError
returns-in-ReferenceError g c = record {
  runs =
      let p = setting_in c.args.linked.now g.out in
      let q = c.args.s.now.frames in
      ap (turn_of p q) (made_plain p c.args.class_object c.args.class c.args.count c.args.how (newest q) (world c.args.s.now g.out) (subst IsPlain (sym c.in-ReferenceError.is) tt)) ∙ c.make_plain-in-ReferenceError.ensures.runs;
  limit = search rules;
}

pub returns-in-ArgumentError : goal.returns-in-ArgumentError
returns-in-ArgumentError g c = record {
  runs =
      let p = setting_in c.args.linked.now g.out in
      let q = c.args.s.now.frames in
      ap (turn_of p q) (made_plain p c.args.class_object c.args.class c.args.count c.args.how (newest q) (world c.args.s.now g.out) (subst IsPlain (sym c.in-ArgumentError.is) tt)) ∙ c.make_plain-in-ArgumentError.ensures.runs;
  limit = search rules;
}
