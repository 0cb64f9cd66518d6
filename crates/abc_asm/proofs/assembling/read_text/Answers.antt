-- Where a part has a fault, more lines come, the file is too long, or it is fine.
use Rattle.std.proofs.Common.{sym, subst, ◌∙◌, arith}
use Rattle.std.specs.Option.{IsSome}
use Rattle.std.specs.declared.option.Option.{Option}
use Rattle.abc_text_lines.specs.declared.word.Word.{Word}
use Rattle.std.proofs.lemmas.Result.{err_from_is_err_and}
use Rattle.abc_asm.proofs.Together.{file_fault, fine, is_left, long, more_fault, none_is_left, version_fault}
use Rattle.abc_asm.proofs.assembling.read_text.Goals as goal

pub returns-in_err-read_version : goal.returns-in_err-read_version
returns-in_err-read_version c =
    let p = err_from_is_err_and c.from_residual.result c.from_residual.ensures.1 in
    let r = c.requires in
    rw (p.1, p.2) (version_fault c.args._text.now c.args.reader.now r.rows r.sizes r.instances c.read_version.new.reader _ c.in_err-read_version.ensures.reads)

pub returns-in_err-abc : goal.returns-in_err-abc
returns-in_err-abc c =
    let p = err_from_is_err_and c.from_residual-in_err-abc.result c.from_residual-in_err-abc.ensures.1 in
    let r = c.requires in
    let e = c.in_ok-read_version.ensures in
    rw (p.1, p.2) (file_fault c.args._text.now c.args.reader.now r.rows r.sizes r.instances c.read_version.new.reader e.reads e.goes c.read_file.new.reader _ c.in_err-abc.ensures.reads)

pub returns-then-is_some : goal.returns-then-is_some
returns-then-is_some c =
    let r = c.requires in
    let e = c.in_ok-read_version.ensures in
    let f = c.in_ok-abc.ensures in
    more_fault c.args._text.now c.args.reader.now r.rows r.sizes r.instances c.read_version.new.reader e.reads e.goes c.read_file.new.reader c.in_ok-abc.abc f.reads f.goes c.misplaced.result (subst (λ (o : Option Word). IsSome o) c.word.ensures (is_left c.word.result c.is_some.result c.is_some.ensures c.if-is_some.true)) c.misplaced.ensures

pub returns-then-canon_len-gt-FILE_LIMIT : goal.returns-then-canon_len-gt-FILE_LIMIT
returns-then-canon_len-gt-FILE_LIMIT c =
    let r = c.requires in
    let e = c.in_ok-read_version.ensures in
    let f = c.in_ok-abc.ensures in
    rw c.refused.ensures (long c.args._text.now c.args.reader.now r.rows r.sizes r.instances c.read_version.new.reader e.reads e.goes c.read_file.new.reader c.in_ok-abc.abc f.reads f.goes c.canon_len.result (sym c.word.ensures ∙ none_is_left c.word.result c.is_some.result c.is_some.ensures c.if-is_some.false) c.canon_len.ensures (omega arith))

pub returns : goal.returns
returns c =
    let r = c.requires in
    let e = c.in_ok-read_version.ensures in
    let f = c.in_ok-abc.ensures in
    fine c.args._text.now c.args.reader.now r.rows r.sizes r.instances c.read_version.new.reader e.reads e.goes c.read_file.new.reader c.in_ok-abc.abc f.reads f.goes c.canon_len.result (sym c.word.ensures ∙ none_is_left c.word.result c.is_some.result c.is_some.ensures c.if-is_some.false) c.canon_len.ensures (omega arith)
