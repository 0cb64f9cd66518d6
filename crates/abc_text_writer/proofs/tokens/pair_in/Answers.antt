use Rattle.std.proofs.Common.{ℕ, List, get_or, ap, ◌∙◌}
use Rattle.abc_text_writer.proofs.Digits.{pair_is}
use Rattle.abc_text_writer.proofs.tokens.pair_in.Goals as goal

pub returns : goal.returns
returns c = ap (λ (l : List (List ℕ)). get_or l c.args.n _) c.requires.pairs ∙ pair_is c.args.n _ c.requires.small
