-- The law of written lines.
use Rattle.abc_text_lines.proofs.Written.{line_has}
use Rattle.abc_text_lines.proofs.text_laws.written_line_is_read.Goals as goal

pub returns : goal.returns
returns c = line_has
