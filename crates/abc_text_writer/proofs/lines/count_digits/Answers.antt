use Rattle.std.proofs.Common.{arith}
use Rattle.abc_text_writer.proofs.Padding.{count}
use Rattle.abc_text_writer.proofs.lines.count_digits.Goals as goal

pub returns : goal.returns
returns c = count c.args.n (omega arith)
