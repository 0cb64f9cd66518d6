use Rattle.std.proofs.Common.{sym, ◌∙◌}
use Rattle.abc_file_types.specs.declared.code.Instr.TheVariants as instrs
use Rattle.abc_text_operands.proofs.Kinded.{none_bad, none_good}
use Rattle.abc_text_operands.proofs.instructions.plain.Goals as goal

pub returns-then-is_empty : goal.returns-then-is_empty
returns-then-is_empty c labels = sym (none_good (λ x. instrs.Plain c.args.op) (λ i. tt) c.args.tokens.now labels (sym c.is_empty.ensures ∙ c.if-is_empty.true))

pub returns-else-is_empty : goal.returns-else-is_empty
returns-else-is_empty c labels = sym (none_bad (λ x. instrs.Plain c.args.op) (λ i. tt) c.args.tokens.now labels (sym c.is_empty.ensures ∙ c.if-is_empty.false))
