use Rattle.std.proofs.Common.{◌≤◌, ◌-◌}
use Rattle.std.specs.Prelude.{All}
use Rattle.abc_file_types.specs.Bodies.{IsReadyBody}
use Rattle.abc_bodies.proofs.Collecting.{Gathering}
use Rattle.abc_bodies.proofs.read.read_each_body.Given as goal

abbrev pub invariant-loop : goal.invariant-loop
invariant-loop g l = record {
  gathering : Gathering g.K.Keeping.of_places l.sizes l.count (l.count - l.counter) l.has_body l.bodies l.places l.initial.w (g.S.Source.left l.initial.source) l.w (g.S.Source.left l.source);
  later : g.S.Source.faults l.initial.source ≤ g.S.Source.faults l.source;
  ready : All IsReadyBody l.bodies;
}
