-- The first line feed, or none.
use Rattle.std.proofs.Common.{◌+◌, ◌<◌, ℕ, List, take, length, sym, ap, ◌∙◌, arith}
use Rattle.abc_text_lines.specs.Texts.{lines_in, raws_of_scan, raws_from}
use Rattle.abc_text_lines.specs.Scanning.{Between, scan}
use Rattle.abc_text_tokens.proofs.Dividing.{no_feed, splits_at, splits_end}
use Rattle.abc_text_tokens.proofs.Walking.{tail_is}
use Rattle.abc_text_tokens.proofs.line.split_line.Goals as goal

pub returns-in-Some-clause-lines : goal.returns-in-Some-clause-lines
returns-in-Some-clause-lines c =
    let text = c.args.text.now in
    let end = c.in-Some.end in
    let first = c.in-Some.ensures.0 in
    let lt : end < length text = first.high in
    let lines = no_feed text end (omega (arith, lt)) (λ k less. first.before k (omega arith) less) in λ number.
    splits_at text end lt c.in-Some.ensures.1 lines number ∙ ap (λ (l : List ℕ). raws_of_scan number (scan (take end text) Between) (raws_from (number + 1) (lines_in l))) (sym (tail_is text (end + 1)))

pub returns-in-None-clause-lines : goal.returns-in-None-clause-lines
returns-in-None-clause-lines c =
    let text = c.args.text.now in
    splits_end text (length text) (omega arith) (no_feed text (length text) (omega arith) (λ k less. c.in-None.ensures k (omega arith) less))
