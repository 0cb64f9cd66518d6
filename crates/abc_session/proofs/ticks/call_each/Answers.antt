use Rattle.std.proofs.Common.{arith}
use Rattle.abc_session.proofs.Calling.{all_called, call_stops, none_called, one_called}
use Rattle.abc_session.proofs.ticks.call_each.Goals as goal

pub loop-number-init : goal.loop-number-init
loop-number-init g c = record {
  called = none_called c.args.session.now c.args.method c.args.fuel (g.H.Host.formulas c.args.host.now) c.args.times (g.K.Sink.written c.args.out.now) c.requires.ready;
  later = omega arith;
}

pub loop-number-preserved : goal.loop-number-preserved
loop-number-preserved g c =
    let before = c.loop-number.invariant.later in
    let more = c.call_once.ensures.cause.later in
    record {
      called = one_called c.args.session.now c.args.method c.args.fuel (g.H.Host.formulas c.args.host.now) c.args.times c.loop-number.session c.call_once.new.session c.loop-number.number (g.K.Sink.written c.args.out.now)
          (g.K.Sink.written c.loop-number.out) (g.K.Sink.written c.call_once.new.out) (omega arith) c.loop-number.invariant.called c.in_default.ensures.tells c.in_default.ensures.goes_on;
      later = omega (arith, before, more);
    }

pub returns-in-Err-clause-runs : goal.returns-in-Err-clause-runs
returns-in-Err-clause-runs g c =
    call_stops c.args.session.now c.args.method c.args.fuel (g.H.Host.formulas c.args.host.now) c.args.times c.loop-number.session c.loop-number.number (g.K.Sink.written c.args.out.now) (g.K.Sink.written c.loop-number.out)
    (g.K.Sink.written c.call_once.new.out) c.in-Err.end (omega arith) c.loop-number.invariant.called c.in-Err.ensures.tells

pub returns-clause-runs : goal.returns-clause-runs
returns-clause-runs g c =
    all_called c.args.session.now c.args.method c.args.fuel (g.H.Host.formulas c.args.host.now) c.args.times c.loop-number.session c.loop-number.number (g.K.Sink.written c.args.out.now) (g.K.Sink.written c.loop-number.out) (omega arith)
    c.loop-number.invariant.called
