use Rattle.std.proofs.Common.{◌≤◌, ◌-◌}
use Rattle.abc_bodies.proofs.Passing.{PassesBodies, entry_bytes}
use Rattle.abc_bodies.proofs.pass.pass_each_body.Given as goal

abbrev pub invariant-loop : goal.invariant-loop
invariant-loop g l = PassesBodies entry_bytes l.sizes l.count (l.count - l.counter) l.has_body l.initial.out.items l.out.items l.initial.w (g.S.Source.left l.initial.source) l.w (g.S.Source.left l.source) × (g.S.Source.faults l.initial.source ≤ g.S.Source.faults l.source)
