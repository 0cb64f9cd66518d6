use Rattle.abc_text_lines.specs.Operands.{any_number, number_below}
use Rattle.std.proofs.Common.{◌^◌}
use Rattle.abc_text_lines.specs.Lineforms as forms
use Rattle.abc_text_operands.proofs.Joining.{alone_bad, alone_good}
use Rattle.abc_text_operands.proofs.pools.uint_line.Goals as goal

pub returns-in-Some : goal.returns-in-Some
unfolding forms.uint_line any_number
returns-in-Some c labels = alone_good (number_below (2 ^ 32)) c.args.tokens.now c.in-Some.token labels c.number_below.result c.in-Some.ensures c.number_below.ensures

pub returns-in-None : goal.returns-in-None
unfolding forms.uint_line any_number
returns-in-None c labels = alone_bad (number_below (2 ^ 32)) c.args.tokens.now labels c.in-None.ensures
