use Rattle.std.proofs.Common.{rules, ◌∙◌, ℕ, ◌<◌, ap, subst, sym}
use Rattle.abc_base.specs.declared.names.HostClass.TheVariants as hosts
use Rattle.abc_heap_values.specs.declared.values.Value.TheVariants.{Obj}
use Rattle.abc_objects.specs.declared.found.ScopeFound.{ScopeFound}
use Rattle.abc_frames.specs.Frame.{newest}
use Rattle.abc_run_state.specs.Outer.{setting_in, world}
use Rattle.abc_run_state.specs.Stops.{IsOpen}
use Rattle.abc_run_state.specs.Turns.{turn_of}
use Rattle.abc_run_members.specs.Found.{IsScopeThere}
use Rattle.abc_meaning.specs.World.{throws}
use Rattle.abc_run_members.specs.Scoped.{pushes_in}
use Rattle.abc_run_members.proofs.Pushed.{nothing_is, object_pushed, script_is}
use Rattle.abc_run_members.proofs.scope_arms.push_strictly.Goals as goal

pub returns-in-Object : goal.returns-in-Object
returns-in-Object g c = record {
  runs = object_pushed (setting_in c.args.linked.now g.out) c.args.s.now.frames c.finish.new.frames c.args.parts c.in-Object.o (throws hosts.ReferenceError) c.args.found (world c.args.s.now g.out) c.in-Object.is c.finish.ensures;
  limit = search rules;
}

pub start_above-requires : goal.start_above-requires
start_above-requires g c =
    let l = c.args.linked.now in
    let there : c.in-Start.script < Rattle.std.proofs.Common.length l.file.scripts = subst (λ (f : ScopeFound). IsScopeThere l c.args.s.now.arena f) c.in-Start.is c.requires.1.1.1 in (record { set = c.requires.0.set; known = c.requires.0.known; free = subst IsOpen (script_is (setting_in l g.out) (newest c.args.s.now.frames) c.in-Start.script (λ x. pushes_in c.args.parts (newest c.args.s.now.frames) (Obj x)) (throws hosts.ReferenceError) c.args.found (world c.args.s.now g.out) c.in-Start.is) c.requires.0.free }, (c.requires.1.0.live, (there, subst (λ (n : ℕ). c.in-Start.script < n) (sym c.requires.1.1.0) there)))

pub returns-in-Start : goal.returns-in-Start
returns-in-Start g c = record {
  runs = ap (turn_of (setting_in c.args.linked.now g.out) c.args.s.now.frames) (script_is (setting_in c.args.linked.now g.out) (newest c.args.s.now.frames) c.in-Start.script (λ x. pushes_in c.args.parts (newest c.args.s.now.frames) (Obj x)) (throws hosts.ReferenceError) c.args.found (world c.args.s.now g.out) c.in-Start.is) ∙ c.start_above.ensures.runs;
  limit = search rules;
}

pub returns-in-Missing : goal.returns-in-Missing
returns-in-Missing g c = record {
  runs = ap (turn_of (setting_in c.args.linked.now g.out) c.args.s.now.frames) (nothing_is (setting_in c.args.linked.now g.out) (newest c.args.s.now.frames) (λ x. pushes_in c.args.parts (newest c.args.s.now.frames) (Obj x)) (throws hosts.ReferenceError) c.args.found (world c.args.s.now g.out) c.in-Missing.is);
  limit = search rules;
}
