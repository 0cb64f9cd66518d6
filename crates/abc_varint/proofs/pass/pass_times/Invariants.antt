use Rattle.std.proofs.Common.{◌≤◌, ◌-◌}
use Rattle.abc_varint.proofs.Passing.{PassesOn}
use Rattle.abc_varint.proofs.pass.pass_times.Given as goal

abbrev pub invariant-loop : goal.invariant-loop
invariant-loop g l = PassesOn (g.C.Codec.part l.codec) g.C.Codec.canonical l.count (l.count - l.counter) l.initial.out.items l.out.items l.initial.w (g.S.Source.left l.initial.source) l.w (g.S.Source.left l.source) × (g.S.Source.faults l.initial.source ≤ g.S.Source.faults l.source)
