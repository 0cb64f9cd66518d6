use Rattle.std.proofs.Common.{◌≡◌, ◌≤◌, ◌+◌, length}
use Rattle.abc_file_types.specs.Numbers.{u8}
use Rattle.abc_varint.proofs.Loop.{Going}
use Rattle.abc_varint.proofs.text.gather_bytes.Given as goal

abbrev pub invariant-loop-missing : goal.invariant-loop-missing
invariant-loop-missing g l = Going u8 l.count l.missing l.bytes l.fn.w (g.S.Source.left l.fn.source) l.w (g.S.Source.left l.source) × (g.S.Source.faults l.fn.source ≤ g.S.Source.faults l.source) × (length l.bytes + l.missing ≡ l.count)

abbrev pub decreases-loop-missing : goal.decreases-loop-missing
decreases-loop-missing g l = l.missing
