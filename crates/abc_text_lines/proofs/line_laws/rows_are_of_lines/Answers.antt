-- The law of rows.
use Rattle.abc_text_lines.proofs.Repeating.{has_rows}
use Rattle.abc_text_lines.proofs.line_laws.rows_are_of_lines.Goals as goal

pub returns : goal.returns
returns c = has_rows
