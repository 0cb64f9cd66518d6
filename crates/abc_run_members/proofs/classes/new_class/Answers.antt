use Rattle.std.proofs.Common.{rules, ◌∙◌, ap, arith, subst, sym}
use Rattle.abc_frames.specs.Frame.{newest}
use Rattle.abc_run_state.specs.Outer.{setting_in, world}
use Rattle.abc_run_state.specs.Stops.{IsOpen}
use Rattle.abc_run_state.specs.Turns.{turn_of}
use Rattle.abc_run_members.proofs.ScopesBased.{made_twice, unmade_is}
use Rattle.abc_run_members.proofs.classes.new_class.Goals as goal

pub class_object-requires : goal.class_object-requires
class_object-requires g c = omega (arith, c.requires.1.1, c.requires.0.set.over.counted)

pub returns-in-Some : goal.returns-in-Some
returns-in-Some g c = record {
  runs =
      let p = setting_in c.args.linked.now g.out in
      let q = c.args.s.now.frames in
      ap (turn_of p q) (made_twice p c.args.class (newest q) (world c.args.s.now g.out) _ (sym c.in-Some.ensures));
  limit = search rules;
}

pub make_unmade-requires : goal.make_unmade-requires
make_unmade-requires g c = (record { set = c.requires.0.set; known = c.requires.0.known; free = subst IsOpen (unmade_is (setting_in c.args.linked.now g.out) c.args.class (newest c.args.s.now.frames) (world c.args.s.now g.out) (sym c.in-None.ensures)) c.requires.0.free }, (c.requires.1.0, (c.requires.1.1, sym c.in-None.ensures)))

pub returns-in-None : goal.returns-in-None
returns-in-None g c = record {
  runs =
      let p = setting_in c.args.linked.now g.out in
      let q = c.args.s.now.frames in
      ap (turn_of p q) (unmade_is p c.args.class (newest q) (world c.args.s.now g.out) (sym c.in-None.ensures)) ∙ c.make_unmade.ensures.runs;
  limit = search rules;
}
