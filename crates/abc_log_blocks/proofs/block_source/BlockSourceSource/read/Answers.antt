use Rattle.std.proofs.Common.{ap}
use Rattle.abc_log_blocks.proofs.Blocks.{given}
use Rattle.abc_log_blocks.proofs.block_source.BlockSourceSource.read.Goals as goal

pub returns-clause-bytes : goal.returns-clause-bytes
returns-clause-bytes g c =
    let e = c.give.ensures in
    given _ _ _ _ _ _ c.give.result c.fill.ensures.keeps c.in_ok-fill.ensures.ready (ap g.S.Source.left e.source) e.count e.front e.held
