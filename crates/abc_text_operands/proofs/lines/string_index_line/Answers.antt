use Rattle.abc_text_lines.specs.Operands.{any_number, index_upto}
use Rattle.abc_text_lines.specs.Lineforms as forms
use Rattle.abc_text_operands.proofs.Joining.{alone_bad, alone_good}
use Rattle.abc_text_operands.proofs.lines.string_index_line.Goals as goal

pub returns-in-Some : goal.returns-in-Some
unfolding forms.string_index_line any_number
returns-in-Some c labels = alone_good (index_upto c.args.sizes.now.strings) c.args.tokens.now c.in-Some.token labels c.index_upto.result c.in-Some.ensures c.index_upto.ensures

pub returns-in-None : goal.returns-in-None
unfolding forms.string_index_line any_number
returns-in-None c labels = alone_bad (index_upto c.args.sizes.now.strings) c.args.tokens.now labels c.in-None.ensures
