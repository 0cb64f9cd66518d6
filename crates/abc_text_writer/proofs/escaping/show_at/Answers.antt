use Rattle.std.proofs.Common.{arith}
use Rattle.abc_text_writer.proofs.Tables.{row_shows}
use Rattle.abc_text_writer.proofs.escaping.show_at.Goals as goal

pub returns-clause-bytes : goal.returns-clause-bytes
returns-clause-bytes c = row_shows c.args.piece.now c.row_at-row.result c.args.at c.args.byte c.row_at-row.ensures (omega arith)
