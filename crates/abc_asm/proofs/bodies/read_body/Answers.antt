-- The line is broken or has a fault, a line below has one, the code is too long, or all is fine.
use Rattle.std.proofs.Common.{refl, sym, ap, ◌∙◌}
use Rattle.std.proofs.lemmas.Result.{err_from_is_err_and}
use Rattle.abc_text_lines.specs.declared.word.Word.TheVariants as words
use Rattle.abc_text_reader.proofs.Lone.{broken_reads, named_is}
use Rattle.abc_text_reader.proofs.Pairs.{headed}
use Rattle.abc_asm.specs.Below.{body_below, body_from_below, body_value}
use Rattle.abc_asm.proofs.Bodied.{below_fails, body_fine, head_fails, head_fine, line_says, too_long}
use Rattle.abc_asm.proofs.bodies.read_body.Goals as goal

pub returns-in_err-taken-clause-reads : goal.returns-in_err-taken-clause-reads
returns-in_err-taken-clause-reads c =
    let p = err_from_is_err_and c.from_residual.result c.from_residual.ensures.1 in
    rw (p.1, p.2) (broken_reads _ c.args.reader.now c.take.new.self _ (headed body_value body_below body_from_below) c.in_err-taken.ensures.broken)

pub returns-in_err-head-clause-reads : goal.returns-in_err-head-clause-reads
returns-in_err-head-clause-reads c =
    let p = err_from_is_err_and c.from_residual-in_err-head.result c.from_residual-in_err-head.ensures.1 in
    rw (p.1, p.2) (head_fails c.args.reader.now c.take.new.self c.in_ok-taken.taken (named_is words.Body c.args.reader.now c.take.new.self c.in_ok-taken.taken refl c.requires.next c.in_ok-taken.ensures.row) c.in_ok-taken.ensures.row c.in_ok-taken.ensures.goes c.take.new.self c.with_fault-said.result _
    (c.with_fault-said.ensures ∙ line_says c.args.reader.now c.take.new.self c.in_ok-taken.taken (named_is words.Body c.args.reader.now c.take.new.self c.in_ok-taken.taken refl c.requires.next c.in_ok-taken.ensures.row) c.in_ok-taken.ensures.row c.in_ok-taken.ensures.goes c.body_line-own.result _ c.as_slice.ensures.value c.body_line-own.ensures) c.in_err-head.ensures)

pub returns-in_err-below-clause-reads : goal.returns-in_err-below-clause-reads
returns-in_err-below-clause-reads c =
    let p = err_from_is_err_and c.from_residual-in_err-below.result c.from_residual-in_err-below.ensures.1 in
    rw (p.1, p.2) (below_fails c.args.reader.now c.take.new.self c.in_ok-taken.taken (named_is words.Body c.args.reader.now c.take.new.self c.in_ok-taken.taken refl c.requires.next c.in_ok-taken.ensures.row) c.in_ok-taken.ensures.row c.in_ok-taken.ensures.goes c.read_below.new.reader c.in_ok-head.head _
    (head_fine c.args.reader.now c.take.new.self c.in_ok-taken.taken (named_is words.Body c.args.reader.now c.take.new.self c.in_ok-taken.taken refl c.requires.next c.in_ok-taken.ensures.row) c.in_ok-taken.ensures.row c.in_ok-taken.ensures.goes c.with_fault-said.result c.in_ok-head.head (c.with_fault-said.ensures ∙ line_says c.args.reader.now c.take.new.self c.in_ok-taken.taken (named_is words.Body c.args.reader.now c.take.new.self c.in_ok-taken.taken refl c.requires.next c.in_ok-taken.ensures.row) c.in_ok-taken.ensures.row c.in_ok-taken.ensures.goes c.body_line-own.result _ c.as_slice.ensures.value c.body_line-own.ensures) c.in_ok-head.ensures) c.in_err-below.ensures.reads)

pub returns-then-is_too_long-clause-reads : goal.returns-then-is_too_long-clause-reads
returns-then-is_too_long-clause-reads c =
    rw c.refused.ensures (too_long c.args.reader.now c.take.new.self c.in_ok-taken.taken (named_is words.Body c.args.reader.now c.take.new.self c.in_ok-taken.taken refl c.requires.next c.in_ok-taken.ensures.row) c.in_ok-taken.ensures.row c.in_ok-taken.ensures.goes c.read_below.new.reader c.in_ok-head.head c.in_ok-below.below
    (head_fine c.args.reader.now c.take.new.self c.in_ok-taken.taken (named_is words.Body c.args.reader.now c.take.new.self c.in_ok-taken.taken refl c.requires.next c.in_ok-taken.ensures.row) c.in_ok-taken.ensures.row c.in_ok-taken.ensures.goes c.with_fault-said.result c.in_ok-head.head (c.with_fault-said.ensures ∙ line_says c.args.reader.now c.take.new.self c.in_ok-taken.taken (named_is words.Body c.args.reader.now c.take.new.self c.in_ok-taken.taken refl c.requires.next c.in_ok-taken.ensures.row) c.in_ok-taken.ensures.row c.in_ok-taken.ensures.goes c.body_line-own.result _ c.as_slice.ensures.value c.body_line-own.ensures) c.in_ok-head.ensures) c.in_ok-below.ensures.reads c.read_below.new.gathering.len c.in_ok-below.ensures.len c.is_too_long.result c.is_too_long.ensures c.if-is_too_long.true)

pub returns-clause-reads : goal.returns-clause-reads
returns-clause-reads c =
    body_fine c.args.reader.now c.take.new.self c.in_ok-taken.taken (named_is words.Body c.args.reader.now c.take.new.self c.in_ok-taken.taken refl c.requires.next c.in_ok-taken.ensures.row) c.in_ok-taken.ensures.row c.in_ok-taken.ensures.goes c.read_below.new.reader c.in_ok-head.head c.in_ok-below.below
    (head_fine c.args.reader.now c.take.new.self c.in_ok-taken.taken (named_is words.Body c.args.reader.now c.take.new.self c.in_ok-taken.taken refl c.requires.next c.in_ok-taken.ensures.row) c.in_ok-taken.ensures.row c.in_ok-taken.ensures.goes c.with_fault-said.result c.in_ok-head.head (c.with_fault-said.ensures ∙ line_says c.args.reader.now c.take.new.self c.in_ok-taken.taken (named_is words.Body c.args.reader.now c.take.new.self c.in_ok-taken.taken refl c.requires.next c.in_ok-taken.ensures.row) c.in_ok-taken.ensures.row c.in_ok-taken.ensures.goes c.body_line-own.result _ c.as_slice.ensures.value c.body_line-own.ensures) c.in_ok-head.ensures) c.in_ok-below.ensures.reads c.read_below.new.gathering.len c.in_ok-below.ensures.len c.is_too_long.result c.is_too_long.ensures c.if-is_too_long.false _ refl
