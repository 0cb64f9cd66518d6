-- No line, another line, a broken one, a good one or a bad one.
use Rattle.std.proofs.Common.{◌≡◌, sym, ◌∙◌}
use Rattle.std.proofs.lemmas.Result.{err_from_is_err_and}
use Rattle.abc_text_lines.specs.Words.{place_of}
use Rattle.abc_asm.proofs.Begun.{broken_version, no_lines, other_line, taken_is, version_bad, version_read}
use Rattle.abc_asm.proofs.assembling.read_version.Goals as goal

pub returns-in_default-clause-reads : goal.returns-in_default-clause-reads
returns-in_default-clause-reads c = rw c.refused.ensures (no_lines c.args.reader.now c.args.reader.now (sym c.word.ensures ∙ c.in_default.is))

pub returns-then-place_of-clause-reads : goal.returns-then-place_of-clause-reads
returns-then-place_of-clause-reads c =
    other_line c.args.reader.now c.misplaced.new.reader c.in-Some.word c.misplaced.result (sym c.word.ensures ∙ c.in-Some.is)
    (λ at. c.if-place_of.true (c.place_of.ensures.is ∙ at ∙ sym c.place_of-2.ensures.is))
    c.misplaced.ensures

pub returns-in_err-taken-clause-reads : goal.returns-in_err-taken-clause-reads
returns-in_err-taken-clause-reads c =
    let p = err_from_is_err_and c.from_residual.result c.from_residual.ensures.1 in
    let at : place_of c.in-Some.word ≡ 0 = sym c.place_of.ensures.is ∙ c.if-place_of.false ∙ c.place_of-2.ensures.is in
    rw (p.1, p.2) (broken_version c.args.reader.now c.take.new.self c.in-Some.word _ (sym c.word.ensures ∙ c.in-Some.is) at c.in_err-taken.ensures.broken)

pub returns-in-Ok-clause-reads : goal.returns-in-Ok-clause-reads
returns-in-Ok-clause-reads c =
    let e = c.in_ok-taken.ensures in
    let at : place_of c.in-Some.word ≡ 0 = sym c.place_of.ensures.is ∙ c.if-place_of.false ∙ c.place_of-2.ensures.is in
    version_read c.args.reader.now c.take.new.self c.in_ok-taken.taken (taken_is c.args.reader.now c.take.new.self c.in_ok-taken.taken c.in-Some.word (sym c.word.ensures ∙ c.in-Some.is) at e.row) e.once e.row _ _ c.as_slice.ensures.value c.in-Ok.ensures

pub returns-in-Err-clause-reads : goal.returns-in-Err-clause-reads
returns-in-Err-clause-reads c =
    let e = c.in_ok-taken.ensures in
    let at : place_of c.in-Some.word ≡ 0 = sym c.place_of.ensures.is ∙ c.if-place_of.false ∙ c.place_of-2.ensures.is in
    rw c.refused-in-Err.ensures (version_bad c.args.reader.now c.take.new.self c.in_ok-taken.taken (taken_is c.args.reader.now c.take.new.self c.in_ok-taken.taken c.in-Some.word (sym c.word.ensures ∙ c.in-Some.is) at e.row) e.once e.row c.in-Err.reason _ c.as_slice.ensures.value c.in-Err.ensures)
