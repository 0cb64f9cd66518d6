use Rattle.std.proofs.Common.{◌≡◌, ◌+◌, ◌≤◌, length}
use Rattle.abc_text_lines.specs.Texts.{lines_in, raws_from}
use Rattle.abc_text_tokens.proofs.line.next_line.Given as goal

abbrev pub invariant-loop-rest : goal.invariant-loop-rest
invariant-loop-rest l = record {
  same : raws_from l.initial.number (lines_in l.initial.rest) ≡ raws_from l.number (lines_in l.rest);
  bound : l.number + length l.rest ≤ l.initial.number + length l.initial.rest;
  short : length l.rest ≤ length l.initial.rest;
}

abbrev pub decreases-loop-rest : goal.decreases-loop-rest
decreases-loop-rest l = length l.rest
