use Rattle.std.proofs.Common.{◌≤◌, ◌+◌, ◌-◌, List, ℕ, arith, drop, length-take}
use Rattle.abc_log_blocks.proofs.Blocks.{handed_on}
use Rattle.abc_log_blocks.proofs.block_sink.BlockSink.hand_on.Goals as goal

pub returns-clause-bytes : goal.returns-clause-bytes
returns-clause-bytes g c =
    let s = c.args.self.now in
    let n : ℕ = c.put-count.result.0 in
    let now : List ℕ = c.as_slice-bytes.result.now in
    let fits : s.at + n ≤ s.end = omega (arith, c.put-count.ensures.within, length-take (s.end - s.at) (drop s.at now), s.within) in
    handed_on _ _ s.bytes s.at s.end n fits (rw c.as_slice-bytes.ensures at c.put-count.ensures.bytes)
