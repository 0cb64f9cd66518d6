use Rattle.std.proofs.Common.{arith}
use Rattle.abc_varint.proofs.Putting.{longest_pool}
use Rattle.abc_varint.proofs.codec.pool_count.Goals as goal

pub returns-then-len : goal.returns-then-len
returns-then-len g c = longest_pool c.args.items.now (omega arith)
