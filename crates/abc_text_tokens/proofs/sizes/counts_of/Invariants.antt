use Rattle.std.proofs.Common.{◌≡◌, ℕ, ◌+◌, ◌≤◌, ◌<◌, true, get_or, length}
use Rattle.abc_text_tokens.specs.Counts.{is_table}
use Rattle.abc_text_tokens.proofs.Passing.{tables_in}
use Rattle.abc_text_tokens.proofs.sizes.counts_of.Given as goal

abbrev pub invariant-loop-rest : goal.invariant-loop-rest
invariant-loop-rest l = record {
  len : length l.counts ≡ 26;
  few : (k : ℕ) → k < 26 → get_or l.counts k 0 + length l.rest ≤ length l.text;
  counted : (k : ℕ) → is_table k ≡ true → get_or l.counts k 0 + tables_in k l.rest ≡ tables_in k l.text;
}

abbrev pub decreases-loop-rest : goal.decreases-loop-rest
decreases-loop-rest l = length l.rest
