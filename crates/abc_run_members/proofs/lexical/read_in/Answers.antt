use Rattle.std.proofs.Common.{rules, ◌∙◌, ℕ, ◌<◌, ap, length, subst, sym}
use Rattle.abc_base.specs.declared.names.HostClass.TheVariants as hosts
use Rattle.abc_heap_values.specs.declared.values.ObjId.{ObjId}
use Rattle.abc_heap_values.specs.declared.values.Value.TheVariants.{Obj}
use Rattle.abc_objects.specs.declared.found.ScopeFound.{ScopeFound}
use Rattle.abc_frames.specs.Frame.{newest}
use Rattle.abc_run_members.specs.Found.{IsScopeThere}
use Rattle.abc_meaning.specs.At.{Act}
use Rattle.abc_run_calls.specs.Calls.{settled_by}
use Rattle.abc_run_members.proofs.Pushed.{nothing_is, object_is, script_is}
use Rattle.abc_run_state.specs.Outer.{setting_in, world}
use Rattle.abc_run_state.specs.Stops.{IsOpen}
use Rattle.abc_run_state.specs.Turns.{turn_of}
use Rattle.abc_run_state.specs.declared.state.How.TheVariants.{Push}
use Rattle.abc_meaning.specs.Members.{reads}
use Rattle.abc_meaning.specs.World.{Run, throws}
use Rattle.abc_run_members.proofs.lexical.read_in.Goals as goal

pub read_on-requires : goal.read_on-requires
read_on-requires g c =
    let l = c.args.linked.now in
    let p = setting_in l g.out in
    let f = newest c.args.s.now.frames in
    let w = world c.args.s.now g.out in
    let go : ObjId → Run Act = λ o. settled_by (Push c.args.parts) f (reads p (Obj o) c.args.name.now) in (record { set = c.requires.0.set; known = c.requires.0.known; free = subst IsOpen (object_is p f c.in-Object.o go (throws hosts.ReferenceError) c.args.found w c.in-Object.is) c.requires.0.free }, (c.requires.1.0, (subst (λ (r : ScopeFound). IsScopeThere l c.args.s.now.arena r) c.in-Object.is c.requires.1.1.1.0, c.requires.1.1.1.1)))

pub returns-in-Object : goal.returns-in-Object
returns-in-Object g c = record {
  runs =
      let p = setting_in c.args.linked.now g.out in
      let f = newest c.args.s.now.frames in
      let w = world c.args.s.now g.out in
      let go : ObjId → Run Act = λ o. settled_by (Push c.args.parts) f (reads p (Obj o) c.args.name.now) in
      ap (turn_of p c.args.s.now.frames) (object_is p f c.in-Object.o go (throws hosts.ReferenceError) c.args.found w c.in-Object.is) ∙ c.read_on.ensures.runs;
  limit = search rules;
}

pub start_above-requires : goal.start_above-requires
start_above-requires g c =
    let l = c.args.linked.now in
    let p = setting_in l g.out in
    let f = newest c.args.s.now.frames in
    let w = world c.args.s.now g.out in
    let go : ObjId → Run Act = λ o. settled_by (Push c.args.parts) f (reads p (Obj o) c.args.name.now) in
    let there : c.in-Start.script < length l.file.scripts = subst (λ (r : ScopeFound). IsScopeThere l c.args.s.now.arena r) c.in-Start.is c.requires.1.1.1.0 in (record { set = c.requires.0.set; known = c.requires.0.known; free = subst IsOpen (script_is p f c.in-Start.script go (throws hosts.ReferenceError) c.args.found w c.in-Start.is) c.requires.0.free }, (c.requires.1.0.live, (there, subst (λ (n : ℕ). c.in-Start.script < n) (sym c.requires.1.1.0) there)))

pub returns-in-Start : goal.returns-in-Start
returns-in-Start g c = record {
  runs =
      let p = setting_in c.args.linked.now g.out in
      let f = newest c.args.s.now.frames in
      let w = world c.args.s.now g.out in
      let go : ObjId → Run Act = λ o. settled_by (Push c.args.parts) f (reads p (Obj o) c.args.name.now) in
      ap (turn_of p c.args.s.now.frames) (script_is p f c.in-Start.script go (throws hosts.ReferenceError) c.args.found w c.in-Start.is) ∙ c.start_above.ensures.runs;
  limit = search rules;
}

pub returns-in-Missing : goal.returns-in-Missing
returns-in-Missing g c = record {
  runs =
      let p = setting_in c.args.linked.now g.out in
      let f = newest c.args.s.now.frames in
      let w = world c.args.s.now g.out in
      let go : ObjId → Run Act = λ o. settled_by (Push c.args.parts) f (reads p (Obj o) c.args.name.now) in
      ap (turn_of p c.args.s.now.frames) (nothing_is p f go (throws hosts.ReferenceError) c.args.found w c.in-Missing.is);
  limit = search rules;
}
