-- A line that ends the part.
use Rattle.std.proofs.Common.{◌≡◌, false, nat_eq, ap, ◌∙◌, arith}
use Rattle.std.specs.declared.option.Option.{Option}
use Rattle.std.proofs.lemmas.Bool.Decides.{nat_tests}
use Rattle.abc_text_lines.specs.Words.{place_of}
use Rattle.abc_text_lines.specs.Wordlines.{among}
use Rattle.abc_text_tokens.specs.declared.line.Line.{Line}
use Rattle.abc_text_tokens.specs.Cursor.{raw_of_line, raws_after, raws_at}
use Rattle.abc_text_tokens.specs.Counts.{count_raws}
use Rattle.abc_text_tokens.proofs.Counted.{count_stops}
use Rattle.abc_text_tokens.proofs.counting.count_ahead.Goals as goal

pub returns-then-not-is_among : goal.returns-then-not-is_among
returns-then-not-is_among c =
    let line = c.in-Some.line in
    let part = c.args.part.now in
    let differs : nat_eq (place_of line.word) c.args.place ≡ false = (let f = c.if-here-place.false in let g = c.place_of-here.ensures.is in grind (arith, nat_tests)) in
    let other : among (place_of line.word) part ≡ false = cc (c.is_among.ensures, c.if-not-is_among.true, c.place_of-here.ensures.is) in
    let stops : count_raws part c.args.place (raws_at c.loop-next.next) ≡ 0 = ap (λ (o : Option Line). count_raws part c.args.place (raws_at o)) c.in-Some.is ∙ count_stops part c.args.place (raw_of_line line) (raws_after line) differs other in
    omega (arith, stops, c.loop-next.invariant.counted)
