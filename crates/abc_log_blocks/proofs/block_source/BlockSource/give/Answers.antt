use Rattle.std.proofs.Common.{◌+◌, ◌≤◌, arith}
use Rattle.abc_log_blocks.proofs.Blocks.{rest_of}
use Rattle.abc_log_blocks.proofs.block_source.BlockSource.give.Goals as goal

pub returns-clause-held : goal.returns-clause-held
returns-clause-held g c =
    let s = c.args.self.now in
    let fits : s.at + c.min-count.result ≤ s.end = omega (arith, c.min-count.ensures) in
    rest_of s.bytes s.at s.end c.min-count.result fits
