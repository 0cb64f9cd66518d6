use Rattle.abc_text_lines.specs.Operands.{any_number, index_operand_below}
use Rattle.abc_text_lines.specs.Lineforms as forms
use Rattle.abc_text_operands.proofs.Joining.{alone_bad, alone_good}
use Rattle.abc_text_operands.proofs.lines.trait_metadata_line.Goals as goal

pub returns-in-Some : goal.returns-in-Some
unfolding forms.trait_metadata_line any_number
returns-in-Some c labels = alone_good (index_operand_below c.args.sizes.now.metadata) c.args.tokens.now c.in-Some.token labels c.index_below.result c.in-Some.ensures c.index_below.ensures

pub returns-in-None : goal.returns-in-None
unfolding forms.trait_metadata_line any_number
returns-in-None c labels = alone_bad (index_operand_below c.args.sizes.now.metadata) c.args.tokens.now labels c.in-None.ensures
