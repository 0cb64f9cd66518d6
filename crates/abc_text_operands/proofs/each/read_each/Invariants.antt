-- What was read so far, and what the tokens that are left are read as.
use Rattle.std.proofs.Common.{◌≡◌, drop}
use Rattle.abc_text_tokens.specs.Walks.{tokens_of}
use Rattle.abc_text_operands.specs.Each.{each_result, onto_operands, so_far}
use Rattle.abc_text_operands.proofs.each.read_each.Given as goal

abbrev pub invariant-loop-token : goal.invariant-loop-token
invariant-loop-token g l = onto_operands (so_far l.first l.items) (each_result (g.E.Element.reads l.element) (tokens_of (drop l.token-index l.tokens))) ≡ each_result (g.E.Element.reads l.element) (tokens_of l.tokens)
