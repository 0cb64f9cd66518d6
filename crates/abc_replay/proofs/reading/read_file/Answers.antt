use Rattle.std.proofs.Common.{◌+◌, ◌^◌, arith}
use Rattle.std.proofs.lemmas.Result.{err_from_is_err_and}
use Rattle.abc_log.proofs.Takings.{takes_more, takes_then}
use Rattle.abc_replay.proofs.Parts.{no_head, no_part}
use Rattle.abc_replay.proofs.reading.read_file.Goals as goal

pub returns-in_err-read_head-clause-refused : goal.returns-in_err-read_head-clause-refused
returns-in_err-read_head-clause-refused g c =
    let p = err_from_is_err_and c.from_residual.result c.from_residual.ensures.1 in
    rw (p.1, p.2) (no_head (g.S.Source.left c.args.source.now) c.in_err-read_head.field-0.0 c.in_err-read_head.ensures.stops)

pub returns-in_err-bytes-clause-refused : goal.returns-in_err-bytes-clause-refused
returns-in_err-bytes-clause-refused g c =
    let p = err_from_is_err_and c.from_residual-in_err-bytes.result c.from_residual-in_err-bytes.ensures.1 in
    rw (p.1, p.2) (no_part (g.S.Source.left c.args.source.now) c.in_err-bytes.field-0.0)

pub returns-in_err-read_head-clause-taken : goal.returns-in_err-read_head-clause-taken
returns-in_err-read_head-clause-taken g c = takes_more _ _ 9 (2 ^ 24 + 10) (omega arith) c.in_err-read_head.ensures.taken

pub returns-in_err-bytes-clause-taken : goal.returns-in_err-bytes-clause-taken
returns-in_err-bytes-clause-taken g c = takes_then _ _ _ 9 c.min.result (2 ^ 24 + 10) (omega (arith, c.min.ensures)) c.in_ok-read_head.ensures.taken c.in_err-bytes.ensures.taken

pub returns-clause-taken : goal.returns-clause-taken
returns-clause-taken g c = takes_then _ _ _ 9 c.min.result (2 ^ 24 + 10) (omega (arith, c.min.ensures)) c.in_ok-read_head.ensures.taken c.in_ok-bytes.ensures.taken
