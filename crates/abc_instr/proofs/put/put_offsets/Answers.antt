use Rattle.std.proofs.Common.{ℕ}
use Rattle.abc_file_types.specs.Canonical.{s24_bytes}
use Rattle.abc_file_types.specs.CodeBytes.{offset}
use Rattle.abc_file_types.proofs.Lengths.{map_more}
use Rattle.abc_instr.proofs.put.put_offsets.Goals as goal

pub loop-target-preserved : goal.loop-target-preserved
loop-target-preserved c =
    map_more (λ (t : ℕ). s24_bytes (offset c.args.starts.now c.args.base t)) c.args.out.now.items c.loop-target.out.items c.put_offset.new.out.items c.args.targets.now c.loop-target.target-index
    (rw c.as_slice-target-items.ensures at c.loop-target-test.true) c.loop-target.invariant (rw c.as_slice-target-items.ensures at c.in_ok-put_offset.ensures)
