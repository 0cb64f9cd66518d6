use Rattle.std.proofs.Common.{refl}
use Rattle.std.specs.Prelude.{None}
use Rattle.abc_machine.proofs.Opening.{begins_at, log_as, run_keeps, run_names, run_steps, run_world}
use Rattle.abc_machine.proofs.machine.Machine.run_logged.Goals as goal

pub log_for-end-requires : goal.log_for-end-requires
log_for-end-requires g c = λ κs among. (among.0, (among.1, (begins_at c.linked-linked.result.now c.self.inside.verified (g.H.Host.formulas c.args.host.now) c.self.inside.state c.args.fuel c.self.inside.ended c.self.inside.closed c.self.inside.seen c.self.inside.steps c.args.self.now c.linked-linked.ensures c.self.view_is c.in-None.is c.self.invariant c.requires c.linked_law.ensures c.verified_law.ensures (g.met.H.Host.formed c.args.host.now) None, (refl, (refl, c.self.invariant.noted c.in-None.is)))))

pub returns-in-None-clause-logs : goal.returns-in-None-clause-logs
returns-in-None-clause-logs g c = λ e. log_as c.linked-linked.result.now c.self.inside.verified (g.H.Host.formulas c.args.host.now) c.self.inside.state c.args.fuel c.self.inside.ended c.self.inside.closed c.self.inside.seen c.self.inside.steps c.args.self.now c.linked-linked.ensures c.self.view_is c.in-None.is c.self.invariant c.requires (g.K.Sink.written c.args.log.now) (g.K.Sink.written c.log_for-end.new.log) c.log_for-end.result c.log_for-end.ensures.logs

pub returns-in-None-clause-leaves : goal.returns-in-None-clause-leaves
returns-in-None-clause-leaves g c = λ e. record {
  world = run_world c.linked-linked.result.now c.self.inside.verified (g.H.Host.formulas c.args.host.now) c.self.inside.state c.args.fuel c.self.inside.ended c.self.inside.closed c.self.inside.seen c.self.inside.steps c.args.self.now c.linked-linked.ensures c.self.view_is c.in-None.is c.self.invariant c.requires c.linked_law.ensures c.verified_law.ensures (g.met.H.Host.formed c.args.host.now) c.log_for-end.new.s c.drop_frames.new.s c.log_for-end.new.seen c.log_for-end.result c.log_for-end.ensures.leaves c.drop_frames.ensures.drops c.log_for-end.ensures.limit;
  names = run_names c.linked-linked.result.now c.self.inside.verified (g.H.Host.formulas c.args.host.now) c.self.inside.state c.args.fuel c.self.inside.ended c.self.inside.closed c.self.inside.seen c.self.inside.steps c.args.self.now c.linked-linked.ensures c.self.view_is c.in-None.is c.self.invariant c.requires c.linked_law.ensures c.verified_law.ensures (g.met.H.Host.formed c.args.host.now) c.log_for-end.new.s c.drop_frames.new.s c.log_for-end.new.seen c.log_for-end.result c.log_for-end.ensures.leaves c.drop_frames.ensures.drops c.log_for-end.ensures.limit;
  steps = λ f. run_steps c.linked-linked.result.now c.self.inside.verified (g.H.Host.formulas c.args.host.now) c.self.inside.state c.args.fuel c.self.inside.ended c.self.inside.closed c.self.inside.seen c.self.inside.steps c.args.self.now c.linked-linked.ensures c.self.view_is c.in-None.is c.self.invariant c.requires c.log_for-end.new.fuel (c.log_for-end.ensures.steps f);
}

pub invariant_of-self : goal.invariant_of-self
invariant_of-self g c = run_keeps c.linked-linked.result.now c.self.inside.verified (g.H.Host.formulas c.args.host.now) c.self.inside.state c.args.fuel c.self.inside.ended c.self.inside.closed c.self.inside.seen c.self.inside.steps c.args.self.now c.linked-linked.ensures c.self.view_is c.in-None.is c.self.invariant c.requires c.linked_law.ensures c.verified_law.ensures (g.met.H.Host.formed c.args.host.now) c.log_for-end.new.s c.drop_frames.new.s c.log_for-end.new.seen c.log_for-end.result c.log_for-end.ensures.leaves c.drop_frames.ensures.drops c.log_for-end.ensures.limit
