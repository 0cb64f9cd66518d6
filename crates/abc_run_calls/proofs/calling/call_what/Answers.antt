use Rattle.std.proofs.Common.{rules, ◌∙◌, ap, subst}
use Rattle.std.proofs.lemmas.Result.{err_from_is_err_and}
use Rattle.abc_meaning.specs.At.{Act}
use Rattle.abc_heap_store.specs.declared.records.What.{What}
use Rattle.abc_objects.specs.Stands.{NamesParts}
use Rattle.abc_frames.specs.Frame.{newest}
use Rattle.abc_run_state.specs.Outer.{setting_in, world}
use Rattle.abc_run_state.specs.Stops.{IsOpen}
use Rattle.abc_run_state.specs.Turns.{turn_of}
use Rattle.abc_meaning.specs.World.{Outcome}
use Rattle.abc_run_calls.proofs.Called.{function_called, host_called}
use Rattle.abc_run_calls.proofs.calling.call_what.Goals as goal

pub this_of-this-requires-clause-home : goal.this_of-this-requires-clause-home
this_of-this-requires-clause-home g c = (subst (λ (x : What). NamesParts c.args.linked.now c.args.s.now.arena x) c.in-Closure.is c.requires.1.1.1).1

pub call_function-requires : goal.call_function-requires
call_function-requires g c =
    let p = setting_in c.args.linked.now g.out in
    let f = newest c.args.s.now.frames in
    let w = world c.args.s.now g.out in
    let is = function_called p c.args.what c.args.receiver c.this_of-this.result c.in-Closure.method c.in-Closure.home c.in-Closure.scope c.in-Closure.bound c.args.count c.args.how f w c.in-Closure.is (c.this_of-this.ensures g.out) in (record { set = c.requires.0.set; known = c.requires.0.known; free = subst (λ (o : Outcome Act). IsOpen o) is c.requires.0.free }, (c.requires.1.0, c.requires.1.1.0))

pub returns-in_err-call_class-in-HostClass : goal.returns-in_err-call_class-in-HostClass
returns-in_err-call_class-in-HostClass g c = record {
  leaves =
      let p = setting_in c.args.linked.now g.out in
      let q = c.args.s.now.frames in
      let is = host_called p c.args.what c.args.receiver c.in-HostClass.class c.host_type-ty.result c.args.count c.args.how (newest q) (world c.args.s.now g.out) c.in-HostClass.is c.host_type-ty.ensures in
      let e = err_from_is_err_and c.from_residual-in_err-call_class-in-HostClass.result c.from_residual-in_err-call_class-in-HostClass.ensures.1 in
      rw (e.1, e.2) (ap (turn_of p q) is ∙ c.in_err-call_class-in-HostClass.ensures.runs);
  finishes = search rules;
  limit = search rules;
}
