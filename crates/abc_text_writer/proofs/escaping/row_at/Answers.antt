use Rattle.std.proofs.Common.{ℕ, List, get_or, ap, ◌∙◌, arith}
use Rattle.abc_text_writer.proofs.Tables.{row_is}
use Rattle.abc_text_writer.proofs.escaping.row_at.Goals as goal

pub returns : goal.returns
returns c = ap (λ (l : List (List ℕ)). get_or l c.args.byte _) c.requires ∙ row_is c.args.byte _ (omega arith)
