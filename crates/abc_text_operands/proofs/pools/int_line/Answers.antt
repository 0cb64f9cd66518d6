use Rattle.std.proofs.Common.{pos, negsuc}
use Rattle.abc_text_lines.specs.Operands.{any_signed, signed_between}
use Rattle.abc_text_lines.specs.Lineforms as forms
use Rattle.abc_text_operands.proofs.Joining.{alone_bad, alone_good}
use Rattle.abc_text_operands.proofs.pools.int_line.Goals as goal

pub returns-in-Some : goal.returns-in-Some
unfolding forms.int_line any_signed
returns-in-Some c labels = alone_good (signed_between (negsuc 2147483647) (pos 2147483647)) c.args.tokens.now c.in-Some.token labels c.signed_within.result c.in-Some.ensures c.signed_within.ensures

pub returns-in-None : goal.returns-in-None
unfolding forms.int_line any_signed
returns-in-None c labels = alone_bad (signed_between (negsuc 2147483647) (pos 2147483647)) c.args.tokens.now labels c.in-None.ensures
