use Rattle.abc_log_blocks.proofs.Blocks.{none_waits}
use Rattle.abc_log_blocks.proofs.block_sink.BlockSink.new.Goals as goal

pub returns-clause-written : goal.returns-clause-written
returns-clause-written g c = none_waits (g.K.Sink.written c.args.sink.now)
