use Rattle.abc_text_lines.specs.Operands.{any_number, u30_operand}
use Rattle.abc_text_lines.specs.Lineforms as forms
use Rattle.abc_text_operands.proofs.Joining.{alone_bad, alone_good}
use Rattle.abc_text_operands.proofs.lines.number_line.Goals as goal

pub returns-in-Some : goal.returns-in-Some
unfolding forms.number_line any_number
returns-in-Some c labels = alone_good u30_operand c.args.tokens.now c.in-Some.token labels c.u30.result c.in-Some.ensures c.u30.ensures

pub returns-in-None : goal.returns-in-None
unfolding forms.number_line any_number
returns-in-None c labels = alone_bad u30_operand c.args.tokens.now labels c.in-None.ensures
