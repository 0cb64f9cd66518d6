-- Both directions of the law.
use Rattle.abc_text_lines.proofs.Readings.{scanned_tokens}
use Rattle.abc_text_lines.proofs.Scans.{tokens_scanned}
use Rattle.abc_text_lines.proofs.text_laws.line_has_one_reading.Goals as goal

pub returns : goal.returns
returns c = λ bytes tokens broken. (tokens_scanned tokens broken bytes, scanned_tokens bytes tokens broken)
