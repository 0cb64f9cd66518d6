use Rattle.std.proofs.Common.{sym, ◌∙◌}
use Rattle.abc_text_operands.proofs.Sloted.{none_empty, none_more}
use Rattle.abc_text_operands.proofs.slots.no_value.Goals as goal

pub returns-then-is_empty : goal.returns-then-is_empty
returns-then-is_empty c labels v = sym (none_empty v labels c.args.kinds.now (sym c.is_empty.ensures ∙ c.if-is_empty.true))

pub returns-else-is_empty : goal.returns-else-is_empty
returns-else-is_empty c labels v = sym (none_more v labels c.args.kinds.now (sym c.is_empty.ensures ∙ c.if-is_empty.false))
