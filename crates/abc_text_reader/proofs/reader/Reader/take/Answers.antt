-- The line is broken or whole.
use Rattle.std.proofs.Common.{◌≡◌, ◌+◌, ◌<◌, ◌^◌, Bool, ◌||◌, List, length, drop, Some, refl, sym, ap, subst, ◌∙◌, arith}
use Rattle.std.specs.declared.option.Option.{Option}
use Rattle.abc_text_tokens.proofs.Counted.{comes_raws, fewer, stay_numbered}
use Rattle.abc_text_tokens.specs.Ahead.{FollowsLine}
use Rattle.abc_text_tokens.specs.Cursor.{AreNumbered, most_lines, raws_after}
use Rattle.abc_text_tokens.specs.declared.line.Line.{Line}
use Rattle.abc_text_reader.specs.declared.error.AsmError.{AsmError}
use Rattle.abc_text_reader.specs.Reading.{IsLineBroken, rows_left}
use Rattle.abc_text_reader.proofs.Taking.{shorter, some_next, still_reads, taken_broken, taken_is, taken_row}
use Rattle.abc_text_reader.proofs.reader.Reader.take.Goals as goal
use Rattle.abc_text_reader.proofs.reader.Reader.take.Goals.{else-line, then-line}

pub unreachable-requires : goal.unreachable-requires
unreachable-requires c = some_next c.args.self.now c.in_default.is c.requires.some

-- the lines that were met ahead follow the one that is taken
pub look_ahead-requires-clause-ahead : goal.look_ahead-requires-clause-ahead
look_ahead-requires-clause-ahead c = subst (λ (o : Option Line). FollowsLine o (drop c.args.self.now.place c.args.self.now.ahead.items)) c.in-Some.is c.requires.is.ahead

-- the line behind the one that is taken
pub line_after-place-requires-clause-ahead : goal.line_after-place-requires-clause-ahead
line_after-place-requires-clause-ahead c = subst (λ (lines : List Line). FollowsLine (Some c.in-Some.line) (drop c.in_ok-behind.behind lines)) (sym c.as_slice.ensures.value) c.in_ok-behind.ensures

pub note_line-requires-clause-next : goal.note_line-requires-clause-next
note_line-requires-clause-next c = let line = c.in-Some.line in comes_raws (raws_after line) (line.number + 1) (length line.rest.now) c.line_after-place.result.0 c.line_after-place.ensures.comes

pub note_line-requires-clause-numbered : goal.note_line-requires-clause-numbered
note_line-requires-clause-numbered c =
    let line = c.in-Some.line in
    stay_numbered (raws_after line) (line.number + 1) (length line.rest.now) c.line_after-place.result.0 (subst AreNumbered c.in-Some.is c.requires.is.numbered) c.line_after-place.ensures.comes

pub note_line-requires-clause-few : goal.note_line-requires-clause-few
note_line-requires-clause-few c =
    let line = c.in-Some.line in
    let few : most_lines (Some line) < 2 ^ 32 = subst (λ (o : Option Line). most_lines o < 2 ^ 32) c.in-Some.is c.requires.is.few in
    let short = fewer (raws_after line) (line.number + 1) (length line.rest.now) c.line_after-place.result.0 c.line_after-place.ensures.comes in
    omega (arith, few, short)

pub note_line-requires-clause-ahead : goal.note_line-requires-clause-ahead
note_line-requires-clause-ahead c = subst (λ (lines : List Line). FollowsLine c.line_after-place.result.0 (drop c.line_after-place.result.1 lines)) c.as_slice.ensures.value c.line_after-place.ensures.ahead

pub returns-then-broken-clause-broken : goal.returns-then-broken-clause-broken
returns-then-broken-clause-broken c =
    let line = c.in-Some.line in
    let unclosed = c.in_ok-unclosed.unclosed in
    let is : c.if-line.broken ≡ (line.broken || unclosed) = elim c.if-line.branch [
      | then-line w ↦ w.broken-is ∙ w.if-line.true ∙ sym (ap (λ (b : Bool). b || unclosed) w.if-line.true)
      | else-line w ↦ w.broken-is ∙ sym (ap (λ (b : Bool). b || unclosed) w.if-line.false)
    ] in
    subst (λ (e : AsmError). IsLineBroken e (rows_left c.args.self.now)) (sym c.refused.ensures)
    (taken_broken c.args.self.now _ c.note_line.new.self line c.in_ok-repeated.repeated unclosed c.if-line.broken (line.number + 1) (length line.rest.now) c.in_ok-repeated.ensures c.in-Some.is refl refl refl c.in_ok-unclosed.ensures c.line_after-place.ensures.comes is c.if-broken.true)

pub returns-clause-goes : goal.returns-clause-goes
returns-clause-goes c =
    let line = c.in-Some.line in
    let noted = c.in_ok-repeated.ensures in
    let lt = shorter _ _ _ (taken_is c.args.self.now _ c.note_line.new.self line c.in_ok-repeated.repeated c.in_ok-unclosed.unclosed (line.number + 1) (length line.rest.now) noted c.in-Some.is refl refl refl c.in_ok-unclosed.ensures c.line_after-place.ensures.comes) in
    record {
      is = still_reads c.args.self.now _ c.note_line.new.self line c.in_ok-repeated.repeated noted c.requires.is c.in-Some.is refl refl refl refl c.line_after-place.ensures.comes;
      sizes = noted.sizes;
      instances = noted.all;
      fewer = omega arith;
    }

pub returns-clause-row : goal.returns-clause-row
returns-clause-row c =
    let line = c.in-Some.line in
    let unclosed = c.in_ok-unclosed.unclosed in
    let is : c.if-line.broken ≡ (line.broken || unclosed) = elim c.if-line.branch [
      | then-line w ↦ w.broken-is ∙ w.if-line.true ∙ sym (ap (λ (b : Bool). b || unclosed) w.if-line.true)
      | else-line w ↦ w.broken-is ∙ sym (ap (λ (b : Bool). b || unclosed) w.if-line.false)
    ] in
    taken_row c.args.self.now _ c.note_line.new.self line c.in_ok-repeated.repeated unclosed c.if-line.broken (line.number + 1) (length line.rest.now) c.in_ok-repeated.ensures c.in-Some.is refl refl refl c.in_ok-unclosed.ensures c.line_after-place.ensures.comes is c.if-broken.false
