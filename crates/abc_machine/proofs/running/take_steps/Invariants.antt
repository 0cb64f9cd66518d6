use Rattle.std.proofs.Common.{◌≡◌, ◌≤◌}
use Rattle.std.specs.Prelude.{Ok}
use Rattle.abc_run_dispatch.specs.Held.{IsHeld}
use Rattle.abc_machine.specs.Runs.{IsRunAt, outer}
use Rattle.abc_machine.proofs.running.take_steps.Given as goal
use Rattle.abc_run_state.specs.declared.state.Left.TheVariants.{Goes}

abbrev pub ghost-spend : goal.ghost-spend
ghost-spend g a = outer a.linked.now g.begun a.fuel.now

abbrev pub invariant-loop-rest : goal.invariant-loop-rest
invariant-loop-rest g l = record {
  at : IsRunAt l.linked g.begun l.rest l.s (g.K.Sink.written l.initial.sink) (g.K.Sink.written l.sink);
  later : g.K.Sink.faults l.initial.sink ≤ g.K.Sink.faults l.sink;
  few : l.rest ≤ l.initial.rest;
  limit : l.s.given.limit ≡ l.initial.s.given.limit;
  held : IsHeld l.linked l.held;
  none : l.left ≡ Ok Goes;
  going : l.halted ≡ Ok tt;
}

abbrev pub decreases-loop-rest : goal.decreases-loop-rest
decreases-loop-rest g l = l.rest
