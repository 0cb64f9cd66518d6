-- The line is broken, has operands, repeats another or is fine.
use Rattle.std.proofs.Common.{nat_eq, List, length, ap, ◌∙◌}
use Rattle.std.proofs.lemmas.Result.{err_from_is_err_and}
use Rattle.abc_text_tokens.specs.declared.token.Token.{Token}
use Rattle.abc_text_lines.specs.declared.word.Word.TheVariants as words
use Rattle.abc_text_reader.proofs.Lone.{broken_reads}
use Rattle.abc_text_reader.proofs.Lined.{label_again, label_bad, label_fine, label_headed, word_is}
use Rattle.abc_text_reader.proofs.code.read_label.Goals as goal

pub returns-in_err-taken-clause-reads : goal.returns-in_err-taken-clause-reads
returns-in_err-taken-clause-reads c =
    let p = err_from_is_err_and c.from_residual.result c.from_residual.ensures.1 in
    rw (p.1, p.2) (broken_reads _ c.args.reader.now c.take.new.self _ label_headed c.in_err-taken.ensures.broken)

pub returns-then-not-is_empty-clause-reads : goal.returns-then-not-is_empty-clause-reads
returns-then-not-is_empty-clause-reads c =
    let old = c.args.reader.now in
    let new = c.take.new.self in
    let taken = c.in_ok-taken.taken in
    let e = c.in_ok-taken.ensures in
    rw c.refused.ensures (label_bad old new taken e.row c.is_empty.result (word_is old new taken words.Label c.requires.next e.row) (c.is_empty.ensures ∙ ap (λ (ts : List Token). nat_eq (length ts) 0) c.as_slice.ensures.value) c.if-not-is_empty.true)

pub returns-then-taken-clause-reads : goal.returns-then-taken-clause-reads
returns-then-taken-clause-reads c =
    let old = c.args.reader.now in
    let new = c.take.new.self in
    let taken = c.in_ok-taken.taken in
    let e = c.in_ok-taken.ensures in
    rw c.refused-then-taken.ensures (label_again old new taken e.row c.is_empty.result (word_is old new taken words.Label c.requires.next e.row) (c.is_empty.ensures ∙ ap (λ (ts : List Token). nat_eq (length ts) 0) c.as_slice.ensures.value) c.if-not-is_empty.false c.if-taken.true)

pub returns-clause-reads : goal.returns-clause-reads
returns-clause-reads c =
    let old = c.args.reader.now in
    let new = c.take.new.self in
    let taken = c.in_ok-taken.taken in
    let e = c.in_ok-taken.ensures in
    label_fine old new taken e.row c.is_empty.result (word_is old new taken words.Label c.requires.next e.row) (c.is_empty.ensures ∙ ap (λ (ts : List Token). nat_eq (length ts) 0) c.as_slice.ensures.value) c.if-not-is_empty.false c.if-taken.false
