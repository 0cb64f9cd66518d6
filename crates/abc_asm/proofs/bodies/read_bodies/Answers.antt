-- The lines end, a body is refused, or one more is read.
use Rattle.std.proofs.Common.{sym, ◌∙◌}
use Rattle.std.proofs.lemmas.Result.{err_from_is_err_and}
use Rattle.abc_text_lines.specs.declared.word.Word.TheVariants as words
use Rattle.abc_asm.specs.Below.{body_item}
use Rattle.abc_asm.proofs.Beneath.{comes_next, finishes, goes_further, item_fails}
use Rattle.abc_asm.proofs.bodies.read_bodies.Goals as goal

pub read_body-requires-clause-next : goal.read_body-requires-clause-next
read_body-requires-clause-next c = comes_next words.Body _ (sym c.comes.ensures ∙ c.loop-reader-test.true)

pub returns-in_err-body-clause-reads : goal.returns-in_err-body-clause-reads
returns-in_err-body-clause-reads c =
    let p = err_from_is_err_and c.from_residual.result c.from_residual.ensures.1 in
    rw (p.1, p.2) (item_fails words.Body body_item c.args.reader.now c.loop-reader.bodies c.loop-reader.reader c.loop-reader.invariant c.read_body.new.reader c.in_err-body.field-0.0 (sym c.comes.ensures ∙ c.loop-reader-test.true) c.in_err-body.ensures.reads)

pub loop-reader-preserved : goal.loop-reader-preserved
loop-reader-preserved c =
    let e = c.in_ok-body.ensures in
    rw c.in_ok-push.ensures.ok (goes_further words.Body body_item c.args.reader.now c.loop-reader.bodies c.loop-reader.reader c.loop-reader.invariant c.read_body.new.reader c.in_ok-body.body (sym c.comes.ensures ∙ c.loop-reader-test.true) e.goes e.ahead e.reads)

pub returns-clause-reads : goal.returns-clause-reads
returns-clause-reads c = finishes words.Body body_item c.args.reader.now c.loop-reader.bodies c.loop-reader.reader c.loop-reader.invariant (sym c.comes.ensures ∙ c.loop-reader-test.false)
