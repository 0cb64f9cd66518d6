use Rattle.std.proofs.Common.{sym, ◌∙◌}
use Rattle.abc_text_lines.specs.Operands.{any_number, index_upto}
use Rattle.abc_text_lines.specs.Lineforms as forms
use Rattle.abc_text_operands.proofs.Joining.{mapped_same, two_bad, two_good}
use Rattle.abc_text_operands.proofs.lines.entry_line.Goals as goal

pub returns-in-Some : goal.returns-in-Some
unfolding forms.entry_line any_number
returns-in-Some c labels =
    let p = index_upto c.args.sizes.now.strings in
    sym (two_good (λ x. (x.0, x.1.0)) (λ e. (e.0, (e.1, tt))) p p c.args.tokens.now c.in-Some.key c.in-Some.value labels c.index_upto.result c.index_upto-in-Some.result c.two.result c.in-Some.ensures c.index_upto.ensures c.index_upto-in-Some.ensures c.two.ensures ∙ mapped_same c.two.result)

pub returns-in-None : goal.returns-in-None
unfolding forms.entry_line any_number
returns-in-None c labels = let p = index_upto c.args.sizes.now.strings in sym (two_bad (λ x. (x.0, x.1.0)) (λ e. (e.0, (e.1, tt))) p p c.args.tokens.now labels c.in-None.ensures)
