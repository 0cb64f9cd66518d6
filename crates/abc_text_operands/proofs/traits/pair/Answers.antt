use Rattle.std.proofs.Common.{sym, ◌∙◌}
use Rattle.abc_text_lines.specs.Operands.{any_number, index_operand_below, u30_operand}
use Rattle.abc_text_operands.proofs.Joining.{mapped_same, two_bad, two_good}
use Rattle.abc_text_operands.proofs.traits.pair.Goals as goal

pub returns-in-Some : goal.returns-in-Some
unfolding any_number
returns-in-Some c labels =
    sym (two_good (λ x. (x.0, x.1.0)) (λ e. (e.0, (e.1, tt))) u30_operand (index_operand_below c.args.size) c.args.fields.now c.in-Some.number c.in-Some.index labels c.u30.result c.index_below.result c.two.result c.in-Some.ensures c.u30.ensures c.index_below.ensures c.two.ensures ∙ mapped_same c.two.result)

pub returns-in-None : goal.returns-in-None
returns-in-None c labels = sym (two_bad (λ x. (x.0, x.1.0)) (λ e. (e.0, (e.1, tt))) u30_operand (index_operand_below c.args.size) c.args.fields.now labels c.in-None.ensures)
