use Rattle.std.proofs.Common.{refl}
use Rattle.abc_machine.proofs.Opening.{begins_at, run_as, run_keeps, run_names, run_steps, run_world}
use Rattle.abc_machine.proofs.machine.Machine.run.Goals as goal

pub run_for-end-requires : goal.run_for-end-requires
run_for-end-requires g c = λ κs among. (among.0, (among.1, (begins_at c.linked-linked.result.now c.self.inside.verified (g.H.Host.formulas c.args.host.now) c.self.inside.state c.args.fuel c.self.inside.ended c.self.inside.closed c.self.inside.seen c.self.inside.steps c.args.self.now c.linked-linked.ensures c.self.view_is c.in-None.is c.self.invariant c.requires c.linked_law.ensures c.verified_law.ensures (g.met.H.Host.formed c.args.host.now) (g.K.Sink.written c.args.out.now), (refl, refl))))

pub returns-in-None-clause-ends : goal.returns-in-None-clause-ends
returns-in-None-clause-ends g c = λ e. run_as c.linked-linked.result.now c.self.inside.verified (g.H.Host.formulas c.args.host.now) c.self.inside.state c.args.fuel c.self.inside.ended c.self.inside.closed c.self.inside.seen c.self.inside.steps c.args.self.now c.linked-linked.ensures c.self.view_is c.in-None.is c.self.invariant c.requires (g.K.Sink.written c.args.out.now) (g.K.Sink.written c.run_for-end.new.sink) c.run_for-end.result c.run_for-end.ensures.runs

pub returns-in-None-clause-leaves : goal.returns-in-None-clause-leaves
returns-in-None-clause-leaves g c = λ e. record {
  world = run_world c.linked-linked.result.now c.self.inside.verified (g.H.Host.formulas c.args.host.now) c.self.inside.state c.args.fuel c.self.inside.ended c.self.inside.closed c.self.inside.seen c.self.inside.steps c.args.self.now c.linked-linked.ensures c.self.view_is c.in-None.is c.self.invariant c.requires c.linked_law.ensures c.verified_law.ensures (g.met.H.Host.formed c.args.host.now) c.run_for-end.new.s c.drop_frames.new.s c.self.inside.seen c.run_for-end.result c.run_for-end.ensures.leaves c.drop_frames.ensures.drops c.run_for-end.ensures.limit;
  names = run_names c.linked-linked.result.now c.self.inside.verified (g.H.Host.formulas c.args.host.now) c.self.inside.state c.args.fuel c.self.inside.ended c.self.inside.closed c.self.inside.seen c.self.inside.steps c.args.self.now c.linked-linked.ensures c.self.view_is c.in-None.is c.self.invariant c.requires c.linked_law.ensures c.verified_law.ensures (g.met.H.Host.formed c.args.host.now) c.run_for-end.new.s c.drop_frames.new.s c.self.inside.seen c.run_for-end.result c.run_for-end.ensures.leaves c.drop_frames.ensures.drops c.run_for-end.ensures.limit;
  steps = λ f. run_steps c.linked-linked.result.now c.self.inside.verified (g.H.Host.formulas c.args.host.now) c.self.inside.state c.args.fuel c.self.inside.ended c.self.inside.closed c.self.inside.seen c.self.inside.steps c.args.self.now c.linked-linked.ensures c.self.view_is c.in-None.is c.self.invariant c.requires c.run_for-end.new.fuel (c.run_for-end.ensures.steps f);
}

pub invariant_of-self : goal.invariant_of-self
invariant_of-self g c = run_keeps c.linked-linked.result.now c.self.inside.verified (g.H.Host.formulas c.args.host.now) c.self.inside.state c.args.fuel c.self.inside.ended c.self.inside.closed c.self.inside.seen c.self.inside.steps c.args.self.now c.linked-linked.ensures c.self.view_is c.in-None.is c.self.invariant c.requires c.linked_law.ensures c.verified_law.ensures (g.met.H.Host.formed c.args.host.now) c.run_for-end.new.s c.drop_frames.new.s c.self.inside.seen c.run_for-end.result c.run_for-end.ensures.leaves c.drop_frames.ensures.drops c.run_for-end.ensures.limit
