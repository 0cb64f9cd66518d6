-- The law of texts.
use Rattle.abc_text_lines.proofs.Answering.{text_decided}
use Rattle.abc_text_lines.proofs.line_laws.text_has_one_answer.Goals as goal

pub returns : goal.returns
returns c = text_decided
