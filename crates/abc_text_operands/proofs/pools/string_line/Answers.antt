-- A quoted text, and what is none.
use Rattle.std.proofs.Common.{sym}
use Rattle.abc_text_lines.specs.Operands.{text_operand}
use Rattle.abc_text_lines.specs.Lineforms as forms
use Rattle.abc_text_operands.proofs.Joining.{alone_bad}
use Rattle.abc_text_operands.proofs.More.{text_bare, text_quoted}
use Rattle.abc_text_operands.proofs.pools.string_line.Goals as goal

pub returns-in-Ok : goal.returns-in-Ok
returns-in-Ok c labels = text_quoted c.args.tokens.now c.in-Some-Quoted.field-0 c.in-Some-Quoted.quoted labels c.in-Ok.text c.in-Some-Quoted.ensures c.in-Some-Quoted.field-0-is c.in-Ok.ensures

pub returns-in-Some-Bare : goal.returns-in-Some-Bare
returns-in-Some-Bare c labels = text_bare c.args.tokens.now c.in-Some-Bare.field-0 c.in-Some-Bare.field-0-0 labels c.in-Some-Bare.ensures c.in-Some-Bare.field-0-is

pub returns-in-None : goal.returns-in-None
unfolding forms.string_line
returns-in-None c labels = sym (alone_bad text_operand c.args.tokens.now labels c.in-None.ensures)
