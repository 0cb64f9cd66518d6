use Rattle.std.proofs.Common.{◌≡◌, ◌≤◌}
use Rattle.std.specs.Prelude.{None}
use Rattle.abc_machine.specs.Logged.{HasAllBut}
use Rattle.abc_machine.specs.Runs.{IsRunAt, outer}
use Rattle.abc_machine.proofs.LoggedRuns.{all, rest}
use Rattle.abc_machine.proofs.logged.log_steps.Given as goal

abbrev pub ghost-spend_logged : goal.ghost-spend_logged
ghost-spend_logged g a = outer a.linked.now g.begun a.fuel.now

abbrev pub invariant-loop-reply : goal.invariant-loop-reply
invariant-loop-reply g l = record {
  at : IsRunAt l.linked g.begun l.fuel l.s None None;
  lines : HasAllBut (rest l.linked g.begun l.fuel) (all l.linked g.begun) (g.K.Sink.written l.initial.log) (g.K.Sink.written l.log);
  seen : l.seen ≡ l.s.started;
  later : g.K.Sink.faults l.initial.log ≤ g.K.Sink.faults l.log;
  few : l.fuel ≤ l.initial.fuel;
  limit : l.s.given.limit ≡ l.initial.s.given.limit;
}

abbrev pub decreases-loop-reply : goal.decreases-loop-reply
decreases-loop-reply g l = l.fuel
