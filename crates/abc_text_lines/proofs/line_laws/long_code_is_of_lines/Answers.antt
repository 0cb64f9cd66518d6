-- The law of code that is too long.
use Rattle.abc_text_lines.proofs.Longer.{tells_long_code}
use Rattle.abc_text_lines.proofs.line_laws.long_code_is_of_lines.Goals as goal

pub returns : goal.returns
returns c = tells_long_code
