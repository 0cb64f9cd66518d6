use Rattle.std.proofs.Common.{sym, ◌∙◌}
use Rattle.abc_text_tokens.specs.Walks.{tokens_of}
use Rattle.abc_text_operands.proofs.Marking.{trait_attrs}
use Rattle.abc_text_operands.proofs.marks.attrs_of.Goals as goal

pub returns : goal.returns
returns c v labels = c.second_or_zero.ensures ∙ sym (trait_attrs v labels (tokens_of c.args.tokens.now))
