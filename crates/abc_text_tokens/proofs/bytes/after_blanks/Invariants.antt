use Rattle.std.proofs.Common.{◌≡◌, drop}
use Rattle.abc_text_lines.specs.Scanning.{Between, scan}
use Rattle.abc_text_tokens.proofs.bytes.after_blanks.Given as goal

abbrev pub invariant-loop-i : goal.invariant-loop-i
invariant-loop-i l = scan l.bytes Between ≡ scan (drop l.i l.bytes) Between
