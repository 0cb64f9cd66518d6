use Rattle.std.proofs.Common.{◌≤◌}
use Rattle.abc_session.proofs.Calling.{AreCalled}
use Rattle.abc_session.proofs.ticks.call_each.Given as goal

abbrev pub invariant-loop-number : goal.invariant-loop-number
invariant-loop-number g l = record {
  called : AreCalled l.initial.session l.method l.fuel (g.H.Host.formulas l.host) l.times l.session l.number (g.K.Sink.written l.initial.out) (g.K.Sink.written l.out);
  later : g.K.Sink.faults l.initial.out ≤ g.K.Sink.faults l.out;
}
