use Rattle.std.proofs.Common.{◌∙◌, sym}
use Rattle.abc_session.specs.Ticks.{tick}
use Rattle.abc_session.proofs.Calling.{answer_ends, as_tick, goes_on_as, stays_linked, told_as, tried_end, tried_told}
use Rattle.abc_session.proofs.ticks.call_once.Goals as goal

pub returns-in-Ok-clause-tells : goal.returns-in-Ok-clause-tells
returns-in-Ok-clause-tells g c =
    told_as c.args.session.now c.call.new.self (tick c.args.method c.args.fuel (g.H.Host.formulas c.args.host.now) c.args.number) c.requires.ready (g.K.Sink.written c.args.out.now) (g.K.Sink.written c.call.new.out) c.call.result c.in-Ok.value (as_tick c.args.session.now c.call.new.self c.args.method c.args.fuel (g.H.Host.formulas c.args.host.now) c.args.number c.one_number-args.result (g.K.Sink.written c.args.out.now) (g.K.Sink.written c.call.new.out) c.call.result c.one_number-args.ensures c.call.ensures.answers)
    (sym c.value_or_end.ensures ∙ c.in-Ok.is) (g.K.Sink.written c.tell.new.out) c.tell.result c.tell.ensures.bytes c.tell.ensures.fault

pub returns-in-Ok-clause-goes_on : goal.returns-in-Ok-clause-goes_on
returns-in-Ok-clause-goes_on g c =
    goes_on_as c.args.session.now c.call.new.self (tick c.args.method c.args.fuel (g.H.Host.formulas c.args.host.now) c.args.number) c.requires.ready (g.K.Sink.written c.args.out.now) (g.K.Sink.written c.call.new.out) c.call.result c.in-Ok.value (as_tick c.args.session.now c.call.new.self c.args.method c.args.fuel (g.H.Host.formulas c.args.host.now) c.args.number c.one_number-args.result (g.K.Sink.written c.args.out.now) (g.K.Sink.written c.call.new.out) c.call.result c.one_number-args.ensures c.call.ensures.answers)
    (sym c.value_or_end.ensures ∙ c.in-Ok.is) c.tell.result

pub returns-in-Ok-clause-linked : goal.returns-in-Ok-clause-linked
returns-in-Ok-clause-linked g c =
    stays_linked c.args.session.now c.call.new.self (tick c.args.method c.args.fuel (g.H.Host.formulas c.args.host.now) c.args.number) c.requires.ready (g.K.Sink.written c.args.out.now) (g.K.Sink.written c.call.new.out) c.call.result (as_tick c.args.session.now c.call.new.self c.args.method c.args.fuel (g.H.Host.formulas c.args.host.now) c.args.number c.one_number-args.result (g.K.Sink.written c.args.out.now) (g.K.Sink.written c.call.new.out) c.call.result c.one_number-args.ensures c.call.ensures.answers)

pub returns-in-Ok-clause-cause : goal.returns-in-Ok-clause-cause
returns-in-Ok-clause-cause g c =
    tried_told (g.K.Sink.faults c.args.out.now) (g.K.Sink.faults c.call.new.out) (g.K.Sink.faults c.tell.new.out) c.call.result c.tell.result c.call.ensures.cause c.tell.ensures.cause

pub returns-in-Err-clause-tells : goal.returns-in-Err-clause-tells
returns-in-Err-clause-tells g c =
    answer_ends c.args.session.now c.call.new.self (tick c.args.method c.args.fuel (g.H.Host.formulas c.args.host.now) c.args.number) c.requires.ready (g.K.Sink.written c.args.out.now) (g.K.Sink.written c.call.new.out) c.call.result c.in-Err.end
    (as_tick c.args.session.now c.call.new.self c.args.method c.args.fuel (g.H.Host.formulas c.args.host.now) c.args.number c.one_number-args.result (g.K.Sink.written c.args.out.now) (g.K.Sink.written c.call.new.out) c.call.result c.one_number-args.ensures c.call.ensures.answers) (sym c.value_or_end.ensures ∙ c.in-Err.is)

pub returns-in-Err-clause-linked : goal.returns-in-Err-clause-linked
returns-in-Err-clause-linked g c =
    stays_linked c.args.session.now c.call.new.self (tick c.args.method c.args.fuel (g.H.Host.formulas c.args.host.now) c.args.number) c.requires.ready (g.K.Sink.written c.args.out.now) (g.K.Sink.written c.call.new.out) c.call.result (as_tick c.args.session.now c.call.new.self c.args.method c.args.fuel (g.H.Host.formulas c.args.host.now) c.args.number c.one_number-args.result (g.K.Sink.written c.args.out.now) (g.K.Sink.written c.call.new.out) c.call.result c.one_number-args.ensures c.call.ensures.answers)

pub returns-in-Err-clause-cause : goal.returns-in-Err-clause-cause
returns-in-Err-clause-cause g c =
    tried_end c.args.session.now c.call.new.self (tick c.args.method c.args.fuel (g.H.Host.formulas c.args.host.now) c.args.number) (g.K.Sink.written c.args.out.now) (g.K.Sink.written c.call.new.out) (g.K.Sink.faults c.args.out.now)
    (g.K.Sink.faults c.call.new.out) c.call.result c.in-Err.end c.requires.ready (as_tick c.args.session.now c.call.new.self c.args.method c.args.fuel (g.H.Host.formulas c.args.host.now) c.args.number c.one_number-args.result (g.K.Sink.written c.args.out.now) (g.K.Sink.written c.call.new.out) c.call.result c.one_number-args.ensures c.call.ensures.answers) c.call.ensures.cause (sym c.value_or_end.ensures ∙ c.in-Err.is)
