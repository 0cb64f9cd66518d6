use Rattle.abc_text_tokens.specs.Entries.{AreRight}
use Rattle.abc_text_tokens.proofs.vocabulary.put_instructions.Given as goal

abbrev pub invariant-loop-op : goal.invariant-loop-op
invariant-loop-op l = AreRight l.entries.items
