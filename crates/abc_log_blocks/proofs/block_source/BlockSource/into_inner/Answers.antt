use Rattle.abc_log_blocks.proofs.Blocks.{none_below}
use Rattle.abc_log_blocks.proofs.block_source.BlockSource.into_inner.Goals as goal

pub returns-clause-ended : goal.returns-clause-ended
returns-clause-ended g c = none_below _ _
