use Rattle.std.proofs.Common.{refl}
use Rattle.abc_machine.proofs.Invoking.{call_answers, call_keeps, call_text, call_texts, can_call}
use Rattle.abc_machine.proofs.machine.Machine.invoke.Goals as goal

pub call_for-reply-requires : goal.call_for-reply-requires
call_for-reply-requires g c = λ κs among. (among.0, (among.1, (can_call c.linked-linked.result.now c.self.inside.verified (g.H.Host.formulas c.args.host.now) c.self.inside.state c.self.inside.ended c.self.inside.closed c.self.inside.seen c.self.inside.steps c.args.self.now c.linked-linked.ensures c.self.view_is c.requires.ready c.self.invariant c.requires.names c.args.method c.requires.method c.linked_law.ensures c.verified_law.ensures (g.met.H.Host.formed c.args.host.now), refl)))

pub invariant_of-self : goal.invariant_of-self
invariant_of-self g c = call_keeps c.linked-linked.result.now c.self.inside.verified (g.H.Host.formulas c.args.host.now) c.self.inside.state c.self.inside.ended c.self.inside.closed c.self.inside.seen c.self.inside.steps c.args.self.now c.linked-linked.ensures c.self.view_is c.requires.ready c.self.invariant c.requires.names c.args.method c.requires.method c.linked_law.ensures c.verified_law.ensures (g.met.H.Host.formed c.args.host.now) c.args.args.now c.args.fuel c.call_for-reply.new.s c.drop_frames.new.s c.call_for-reply.result c.is_write_fault-self-inside.result c.is_write_fault-self-inside.ensures c.call_for-reply.ensures.leaves c.drop_frames.ensures.drops c.call_for-reply.ensures.limit

pub returns-clause-answers : goal.returns-clause-answers
returns-clause-answers g c = call_answers c.linked-linked.result.now c.self.inside.verified (g.H.Host.formulas c.args.host.now) c.self.inside.state c.self.inside.ended c.self.inside.closed c.self.inside.seen c.self.inside.steps c.args.self.now c.linked-linked.ensures c.self.view_is c.requires.ready c.self.invariant c.requires.names c.args.method c.requires.method c.linked_law.ensures c.verified_law.ensures (g.met.H.Host.formed c.args.host.now) c.args.args.now c.args.fuel c.call_for-reply.new.s c.drop_frames.new.s c.call_for-reply.result c.is_write_fault-self-inside.result c.is_write_fault-self-inside.ensures c.call_for-reply.ensures.leaves c.drop_frames.ensures.drops c.call_for-reply.ensures.limit (g.K.Sink.written c.args.out.now) (g.K.Sink.written c.call_for-reply.new.sink) c.call_for-reply.ensures.replies

pub returns-clause-text : goal.returns-clause-text
returns-clause-text g c = λ s e. call_text c.linked-linked.result.now c.self.inside.verified (g.H.Host.formulas c.args.host.now) c.self.inside.state c.self.inside.ended c.self.inside.closed c.self.inside.seen c.self.inside.steps c.args.self.now c.linked-linked.ensures c.self.view_is c.requires.ready c.self.invariant c.requires.names c.args.method c.requires.method c.linked_law.ensures c.verified_law.ensures (g.met.H.Host.formed c.args.host.now) c.args.args.now c.args.fuel c.call_for-reply.new.s c.drop_frames.new.s c.call_for-reply.result c.is_write_fault-self-inside.result c.is_write_fault-self-inside.ensures c.call_for-reply.ensures.leaves c.drop_frames.ensures.drops c.call_for-reply.ensures.limit (g.K.Sink.written c.args.out.now) (g.K.Sink.written c.call_for-reply.new.sink) s c.call_for-reply.ensures.replies e

pub returns-clause-texts : goal.returns-clause-texts
returns-clause-texts g c = call_texts c.self.inside.verified c.self.inside.state c.call_for-reply.new.s c.drop_frames.new.s c.self.inside.ended c.self.inside.closed c.is_write_fault-self-inside.result c.self.inside.steps c.args.self.now c.self.view_is c.call_for-reply.ensures.texts c.drop_frames.ensures.heap
