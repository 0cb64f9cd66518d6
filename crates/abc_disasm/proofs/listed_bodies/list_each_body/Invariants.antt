use Rattle.std.proofs.Common.{◌≤◌, ◌-◌}
use Rattle.abc_bodies.proofs.Passing.{PassesBodies}
use Rattle.abc_disasm.specs.Entries.{entry_text}
use Rattle.abc_disasm.proofs.listed_bodies.list_each_body.Given as goal

abbrev pub invariant-loop : goal.invariant-loop
invariant-loop g l = record {
  passes : PassesBodies (entry_text l.abc) l.sizes l.count (l.count - l.counter) l.has_body l.initial.out.items l.out.items l.initial.w (g.S.Source.left l.initial.source) l.w (g.S.Source.left l.source);
  later : g.S.Source.faults l.initial.source ≤ g.S.Source.faults l.source;
}
