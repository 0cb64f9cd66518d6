use Rattle.std.proofs.Common.{ℕ, List, get_or, ap, ◌∙◌, arith}
use Rattle.abc_text_tokens.proofs.Tables.{run_is}
use Rattle.abc_text_tokens.proofs.bytes.run_byte_at.Goals as goal

pub returns : goal.returns
returns c = ap (λ (l : List ℕ). get_or l c.args.byte 0) c.requires ∙ run_is c.args.byte (omega arith)
