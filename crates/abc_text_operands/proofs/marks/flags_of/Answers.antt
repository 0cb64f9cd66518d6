use Rattle.std.proofs.Common.{sym, ◌∙◌}
use Rattle.abc_text_tokens.specs.Walks.{tokens_of}
use Rattle.abc_text_operands.proofs.Marking.{instance_flags, method_flags}
use Rattle.abc_text_operands.proofs.marks.flags_of.Goals as goal

pub returns-clause-of_method : goal.returns-clause-of_method
returns-clause-of_method c v labels = c.third_or_zero.ensures ∙ sym (method_flags v labels (tokens_of c.args.tokens.now))

pub returns-clause-of_instance : goal.returns-clause-of_instance
returns-clause-of_instance c v labels = c.third_or_zero.ensures ∙ sym (instance_flags v labels (tokens_of c.args.tokens.now))
