-- The line is broken or whole.
use Rattle.std.proofs.Common.{ℕ, List, subst}
use Rattle.std.proofs.lemmas.Result.{err_from_is_err_and}
use Rattle.abc_text_lines.specs.Lines.{Label}
use Rattle.abc_text_operands.specs.Answers.{AnswersOperand}
use Rattle.abc_text_operands.specs.Places.{Places}
use Rattle.abc_text_tokens.specs.Walks.{tokens_of}
use Rattle.abc_text_tokens.specs.declared.token.Token.{Token}
use Rattle.abc_text_reader.specs.Parts.{line_says}
use Rattle.abc_text_reader.proofs.Lone.{broken_reads, lone_headed, lone_reads, named_is}
use Rattle.abc_text_reader.proofs.tables.read_line.Goals as goal

pub returns-in_err-taken-clause-reads : goal.returns-in_err-taken-clause-reads
returns-in_err-taken-clause-reads g c =
    let p = err_from_is_err_and c.from_residual.result c.from_residual.ensures.1 in
    rw (p.1, p.2) (broken_reads _ c.args.reader.now c.take.new.self _ (lone_headed g.F.Flat.value) c.in_err-taken.ensures.broken)

pub returns-clause-reads : goal.returns-clause-reads
returns-clause-reads g c =
    let new = c.take.new.self in
    let taken = c.in_ok-taken.taken in
    let e = c.in_ok-taken.ensures in
    let plain = g.met.F.Flat.plain in
    let says = subst (λ (ts : List Token). (instances : ℕ) (labels : List Label) → Places new.places labels → AnswersOperand c.line-value.result (line_says g.F.Flat.named g.F.Flat.value new.sizes instances labels (tokens_of ts))) c.as_slice.ensures.value c.line-value.ensures in
    rw c.made.ensures (lone_reads g.F.Flat.named g.F.Flat.value c.args.reader.now new taken c.line-value.result plain (named_is g.F.Flat.named c.args.reader.now new taken plain.apart c.requires.next e.row) e.once e.row e.goes.sizes e.labels says)
