use Rattle.abc_text_lines.specs.Operands.{any_number, entry_upto}
use Rattle.abc_text_lines.specs.Lineforms as forms
use Rattle.abc_text_operands.proofs.Joining.{alone_bad, alone_good}
use Rattle.abc_text_operands.proofs.lines.implements_line.Goals as goal

pub returns-in-Some : goal.returns-in-Some
unfolding forms.implements_line any_number
returns-in-Some c labels = alone_good (entry_upto c.args.sizes.now.names) c.args.tokens.now c.in-Some.token labels c.entry_upto.result c.in-Some.ensures c.entry_upto.ensures

pub returns-in-None : goal.returns-in-None
unfolding forms.implements_line any_number
returns-in-None c labels = alone_bad (entry_upto c.args.sizes.now.names) c.args.tokens.now labels c.in-None.ensures
