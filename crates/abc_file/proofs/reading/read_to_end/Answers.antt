use Rattle.std.proofs.lemmas.Result.{err_from_is_err_and}
use Rattle.abc_varint.specs.Reads.{known_input}
use Rattle.abc_file.proofs.Ending.{all_read, all_refused, more_follows, some_fits, used_up_first}
use Rattle.abc_file.proofs.reading.read_to_end.Goals as goal

pub returns-clause-answers : goal.returns-clause-answers
returns-clause-answers g c =
    all_read g.K.Keeping.of_places c.args.w.now c.read_file.new.w c.read_nothing_more.new.w (g.S.Source.left c.args.source.now) (g.S.Source.left c.read_file.new.source) (g.S.Source.left c.read_nothing_more.new.source) c.in_ok-file.file c.requires c.in_ok-file.ensures.value.0
    c.in_ok-read_nothing_more.ensures.ended

pub returns-clause-fits : goal.returns-clause-fits
returns-clause-fits g c = some_fits g.K.Keeping.of_places (g.S.Source.left c.args.source.now) c.in_ok-file.file (returns-clause-answers g c)

pub returns-in_err-file-clause-answers : goal.returns-in_err-file-clause-answers
returns-in_err-file-clause-answers g c =
    let p = err_from_is_err_and c.from_residual.result c.from_residual.ensures.1 in
    rw (p.1, p.2) (all_refused g.K.Keeping.of_places c.args.w.now c.read_file.new.w (g.S.Source.left c.args.source.now) (g.S.Source.left c.read_file.new.source) c.in_err-file.field-0.0 c.requires c.in_err-file.ensures.value.0)

pub returns-in_err-read_nothing_more-clause-answers : goal.returns-in_err-read_nothing_more-clause-answers
returns-in_err-read_nothing_more-clause-answers g c =
    let p = err_from_is_err_and c.from_residual-in_err-read_nothing_more.result c.from_residual-in_err-read_nothing_more.ensures.1 in
    rw (p.1, p.2) (more_follows g.K.Keeping.of_places c.args.w.now c.read_file.new.w c.read_nothing_more.new.w (g.S.Source.left c.args.source.now) (g.S.Source.left c.read_file.new.source) (g.S.Source.left c.read_nothing_more.new.source) c.in_ok-file.file c.requires c.in_ok-file.ensures.value.0
    c.in_err-read_nothing_more.field-0.0 c.in_err-read_nothing_more.ensures.trailing)

pub returns-clause-end : goal.returns-clause-end
returns-clause-end g c =
    used_up_first c.args.w.now c.read_file.new.w (g.S.Source.left c.args.source.now) (g.S.Source.left c.read_file.new.source) (g.S.Source.left c.read_nothing_more.new.source) (λ input is. (c.in_ok-file.ensures.value.0.4 input is).0)
    c.in_ok-read_nothing_more.ensures.end

pub returns-clause-input : goal.returns-clause-input
returns-clause-input g c = (c.in_ok-file.ensures.value.0.4 (known_input c.read_nothing_more.new.w (g.S.Source.left c.read_nothing_more.new.source)) c.in_ok-read_nothing_more.ensures.input).0

pub returns-in_err-file-clause-input : goal.returns-in_err-file-clause-input
returns-in_err-file-clause-input g c = (c.in_err-file.ensures.value.0 c.requires.kept).0

pub returns-in_err-read_nothing_more-clause-input : goal.returns-in_err-read_nothing_more-clause-input
returns-in_err-read_nothing_more-clause-input g c = (c.in_ok-file.ensures.value.0.4 (known_input c.read_nothing_more.new.w (g.S.Source.left c.read_nothing_more.new.source)) c.in_err-read_nothing_more.ensures.input).0
