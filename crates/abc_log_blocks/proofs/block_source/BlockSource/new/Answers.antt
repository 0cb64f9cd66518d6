use Rattle.std.proofs.KnownBytes.{prepend_known-nil}
use Rattle.abc_log_blocks.proofs.block_source.BlockSource.new.Goals as goal

pub returns-clause-left : goal.returns-clause-left
returns-clause-left g c = prepend_known-nil (g.S.Source.left c.args.source.now)
