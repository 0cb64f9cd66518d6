use Rattle.std.proofs.Common.{◌≡◌, true, take}
use Rattle.std.specs.List.{AllByRecursion}
use Rattle.abc_text_lines.specs.Tokens.{is_run_byte}
use Rattle.abc_text_tokens.proofs.bytes.run_len.Given as goal

abbrev pub invariant-loop-i : goal.invariant-loop-i
invariant-loop-i l = AllByRecursion (λ byte. is_run_byte byte ≡ true) (take l.i l.bytes)
