use Rattle.std.proofs.Common.{◌≡◌, ℕ, ◌<◌, ◌^◌, ◌++◌, get_or, length, take}
use Rattle.std.specs.List.{flat_map}
use Rattle.abc_log.specs.Lines.{next_number}
use Rattle.abc_log.specs.Limits.{EndsAll, is_limit_digit}
use Rattle.abc_log.proofs.numbers.read_numbers.Given as goal

abbrev pub invariant-loop-number : goal.invariant-loop-number
invariant-loop-number l = record {
  bytes : l.bytes ≡ flat_map next_number (take l.number-index l.numbers) ++ l.rest;
  small : (k : ℕ) → k < l.number-index → get_or l.numbers k 0 < 2 ^ 32;
  ends : 0 < l.number-index → EndsAll is_limit_digit l.rest;
  long : length l.numbers ≡ length l.initial.numbers;
}
