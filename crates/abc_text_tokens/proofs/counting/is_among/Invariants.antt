use Rattle.std.proofs.Common.{◌≡◌, drop}
use Rattle.abc_text_lines.specs.Wordlines.{among}
use Rattle.abc_text_tokens.proofs.counting.is_among.Given as goal

abbrev pub invariant-loop-other : goal.invariant-loop-other
invariant-loop-other l = among l.place l.part ≡ among l.place (drop l.other-index l.part)
