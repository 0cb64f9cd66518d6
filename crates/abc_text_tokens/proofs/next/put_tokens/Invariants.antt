use Rattle.std.proofs.Common.{◌≡◌, length}
use Rattle.abc_text_lines.specs.Scanning.{Between, scan}
use Rattle.abc_text_tokens.specs.Walks.{tokens_before, tokens_of}
use Rattle.abc_text_tokens.proofs.next.put_tokens.Given as goal

abbrev pub invariant-loop-word : goal.invariant-loop-word
invariant-loop-word l = scan l.line Between ≡ tokens_before (tokens_of l.tokens.items) (scan l.rest Between)

abbrev pub decreases-loop-word : goal.decreases-loop-word
decreases-loop-word l = length l.rest
