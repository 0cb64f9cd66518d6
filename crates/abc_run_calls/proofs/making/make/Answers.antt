use Rattle.std.proofs.Common.{rules, ◌∙◌, ap, subst}
use Rattle.abc_meaning.specs.At.{Act}
use Rattle.abc_objects.specs.Values.{Exists}
use Rattle.abc_frames.specs.Frame.{arguments, newest}
use Rattle.abc_run_state.specs.Outer.{setting_in, world}
use Rattle.abc_run_state.specs.Settling.{settles_how}
use Rattle.abc_run_state.specs.Stops.{IsOpen}
use Rattle.abc_run_state.specs.Turns.{turn_of}
use Rattle.abc_meaning.specs.World.{Outcome, and_then}
use Rattle.abc_run_calls.proofs.Called.{made_of_is, what_names}
use Rattle.abc_run_calls.proofs.making.make.Goals as goal

pub make_of-requires : goal.make_of-requires
make_of-requires g c =
    let l = c.args.linked.now in
    let p = setting_in l g.out in
    let s = c.args.s.now in
    let q = s.frames in
    let o = c.in-Obj.o in
    let inside = subst (Exists l s.arena) c.in-Obj.is c.requires.1.1.1 in
    let is = made_of_is p o c.what-what.result c.args.of (arguments c.args.count (newest q)) (world s g.out) c.in-Obj.is inside c.what-what.ensures in
    let free = subst (λ (x : Outcome Act). IsOpen x) (ap (λ r. and_then r (settles_how c.args.how (newest q))) is) c.requires.0.free in (record { set = c.requires.0.set; known = c.requires.0.known; free = free }, (c.requires.1.0, (c.requires.1.1.0, (inside, what_names l s.arena o.0 c.what-what.result c.requires.0.set.over inside c.what-what.ensures))))

pub returns : goal.returns
returns g c = record {
  runs =
      let l = c.args.linked.now in
      let p = setting_in l g.out in
      let s = c.args.s.now in
      let q = s.frames in
      let o = c.in-Obj.o in
      let inside = subst (Exists l s.arena) c.in-Obj.is c.requires.1.1.1 in
      let is = made_of_is p o c.what-what.result c.args.of (arguments c.args.count (newest q)) (world s g.out) c.in-Obj.is inside c.what-what.ensures in
      ap (λ r. turn_of p q (and_then r (settles_how c.args.how (newest q)))) is ∙ c.make_of.ensures.runs;
  limit = search rules;
}
