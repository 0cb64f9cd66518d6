use Rattle.std.proofs.Common.{◌≡◌, List, ℕ, subst, sym}
use Rattle.std.specs.declared.result.Result.{Result}
use Rattle.abc_text_lines.specs.declared.reason.AsmReason.{AsmReason}
use Rattle.abc_text_lines.specs.Operands.{any_number, entry_upto}
use Rattle.abc_text_lines.specs.Lineforms as forms
use Rattle.abc_text_operands.specs.Answers.{AnswersOperand}
use Rattle.abc_text_tokens.specs.Walks.{tokens_of}
use Rattle.abc_text_operands.proofs.Eaching.{several_is}
use Rattle.abc_text_operands.proofs.each.set_line.Goals as goal

pub returns : goal.returns
unfolding forms.set_line any_number
returns c labels = subst (λ (r : Result (List ℕ) AsmReason). AnswersOperand c.read_each.result r) (sym (several_is (entry_upto c.args.sizes.now.namespaces) labels (tokens_of c.args.tokens.now))) c.read_each.ensures
