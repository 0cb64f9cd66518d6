-- The lines end, another word comes, a line is refused, or one more is read.
use Rattle.std.proofs.Common.{◌≡◌, sym, ap, ◌∙◌}
use Rattle.std.proofs.lemmas.Result.{err_from_is_err_and}
use Rattle.abc_text_lines.specs.Words.{place_of}
use Rattle.abc_text_reader.specs.Parts.{lone_item}
use Rattle.abc_text_reader.proofs.Loops.{finishes, goes_further, item_fails, stops}
use Rattle.abc_text_reader.proofs.tables.read_flat.Goals as goal

pub returns-then-place_of-clause-reads : goal.returns-then-place_of-clause-reads
returns-then-place_of-clause-reads g c =
    stops g.F.Flat.named (lone_item g.F.Flat.value) c.args.reader.now c.loop-word.table c.loop-word.reader c.loop-word.invariant c.in-Some.word (sym c.word.ensures ∙ c.in-Some.is)
    (λ same. c.if-place_of.true (c.place_of.ensures.is ∙ same ∙ sym (c.place_of-in-Some.ensures.is ∙ ap place_of c.word-in-Some.ensures)))

pub returns-in_err-value-clause-reads : goal.returns-in_err-value-clause-reads
returns-in_err-value-clause-reads g c =
    let p = err_from_is_err_and c.from_residual.result c.from_residual.ensures.1 in
    let at : place_of c.in-Some.word ≡ place_of g.F.Flat.named = sym c.place_of.ensures.is ∙ c.if-place_of.false ∙ c.place_of-in-Some.ensures.is ∙ ap place_of c.word-in-Some.ensures in
    rw (p.1, p.2) (item_fails g.F.Flat.named (lone_item g.F.Flat.value) c.args.reader.now c.loop-word.table c.loop-word.reader c.loop-word.invariant c.in-Some.word c.read_line.new.reader c.in_err-value.field-0.0 (sym c.word.ensures ∙ c.in-Some.is) at c.in_err-value.ensures.reads)

pub loop-word-preserved : goal.loop-word-preserved
loop-word-preserved g c =
    let at : place_of c.in-Some.word ≡ place_of g.F.Flat.named = sym c.place_of.ensures.is ∙ c.if-place_of.false ∙ c.place_of-in-Some.ensures.is ∙ ap place_of c.word-in-Some.ensures in
    let e = c.in_ok-value.ensures in
    rw c.in_ok-push.ensures.ok (goes_further g.F.Flat.named (lone_item g.F.Flat.value) c.args.reader.now c.loop-word.table c.loop-word.reader c.loop-word.invariant c.in-Some.word c.read_line.new.reader c.in_ok-value.value (sym c.word.ensures ∙ c.in-Some.is) at e.goes e.ahead e.reads)

pub returns-clause-reads : goal.returns-clause-reads
returns-clause-reads g c = finishes g.F.Flat.named (lone_item g.F.Flat.value) c.args.reader.now c.loop-word.table c.loop-word.reader c.loop-word.invariant (sym c.word.ensures ∙ c.in_default.is)
