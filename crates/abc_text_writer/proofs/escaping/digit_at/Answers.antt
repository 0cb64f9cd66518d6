use Rattle.std.proofs.Common.{ℕ, List, get_or, ap, ◌∙◌}
use Rattle.abc_text_writer.proofs.Tables.{digit_is}
use Rattle.abc_text_writer.proofs.escaping.digit_at.Goals as goal

pub returns : goal.returns
returns c = ap (λ (l : List ℕ). get_or l c.args.n 0) c.requires.digits ∙ digit_is c.args.n c.requires.small
