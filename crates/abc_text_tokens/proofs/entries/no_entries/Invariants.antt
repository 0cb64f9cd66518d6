use Rattle.abc_text_tokens.specs.Entries.{AreRight}
use Rattle.abc_text_tokens.proofs.entries.no_entries.Given as goal

abbrev pub invariant-loop : goal.invariant-loop
invariant-loop l = AreRight l.entries.items
