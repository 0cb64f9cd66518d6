use Rattle.std.proofs.Common.{ℕ, List, get_or, ap, ◌∙◌, arith}
use Rattle.abc_text_tokens.proofs.Tables.{name_is}
use Rattle.abc_text_tokens.proofs.names.name_byte_at.Goals as goal

pub returns : goal.returns
returns c = ap (λ (l : List ℕ). get_or l c.args.byte 0) c.requires ∙ name_is c.args.byte (omega arith)
