use Rattle.abc_text_tokens.specs.Entries.{AreRight}
use Rattle.abc_text_tokens.proofs.vocabulary.put_line_words.Given as goal

abbrev pub invariant-loop-row : goal.invariant-loop-row
invariant-loop-row l = AreRight l.entries.items
