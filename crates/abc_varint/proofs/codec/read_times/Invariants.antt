use Rattle.std.proofs.Common.{◌≡◌, ◌≤◌, ◌-◌, length}
use Rattle.abc_varint.proofs.Loop.{Going}
use Rattle.abc_varint.proofs.codec.read_times.Given as goal

abbrev pub invariant-loop : goal.invariant-loop
invariant-loop g l = Going (g.C.Codec.part l.codec) l.count (l.count - l.counter) l.items l.initial.w (g.S.Source.left l.initial.source) l.w (g.S.Source.left l.source) × (g.S.Source.faults l.initial.source ≤ g.S.Source.faults l.source) × (length l.items ≡ l.counter)
