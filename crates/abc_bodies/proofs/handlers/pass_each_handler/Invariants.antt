use Rattle.std.proofs.Common.{◌≤◌, ◌-◌}
use Rattle.abc_instr.specs.Marks.{mark_at}
use Rattle.abc_bodies.specs.Moved.{moved_bytes, moved_handler}
use Rattle.abc_varint.proofs.Passing.{PassesOn}
use Rattle.abc_bodies.proofs.handlers.pass_each_handler.Given as goal

abbrev pub invariant-loop : goal.invariant-loop
invariant-loop g l = PassesOn (moved_handler l.sizes (mark_at l.marks)) moved_bytes l.count (l.count - l.counter) l.initial.out.items l.out.items l.initial.w (g.S.Source.left l.initial.source) l.w (g.S.Source.left l.source) × (g.S.Source.faults l.initial.source ≤ g.S.Source.faults l.source)
