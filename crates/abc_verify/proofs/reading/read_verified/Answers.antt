use Rattle.std.proofs.lemmas.Result.{err_from_is_err_and}
use Rattle.abc_verify.proofs.Verifying.{read_refuses, read_verified_is, unverified_refuses}
use Rattle.abc_verify.proofs.reading.read_verified.Goals as goal

pub returns-in_err-abc-clause-refused : goal.returns-in_err-abc-clause-refused
returns-in_err-abc-clause-refused g c =
    let p = err_from_is_err_and c.from_residual.result c.from_residual.ensures.1 in
    rw (p.1, p.2) (read_refuses (g.S.Source.left c.args.source.now) c.in_err-abc.field-0.0 c.in_err-abc.ensures.answers)

pub returns-in_err-verified-clause-refused : goal.returns-in_err-verified-clause-refused
returns-in_err-verified-clause-refused g c =
    let p = err_from_is_err_and c.from_residual-in_err-verified.result c.from_residual-in_err-verified.ensures.1 in
    rw (p.1, p.2) (unverified_refuses (g.S.Source.left c.args.source.now) c.in_ok-abc.abc c.in_ok-abc.places c.in_err-verified.field-0.0 c.in_ok-abc.ensures.answers c.in_err-verified.ensures.refused)

pub returns-clause-ok : goal.returns-clause-ok
returns-clause-ok g c = read_verified_is (g.S.Source.left c.args.source.now) c.in_ok-abc.abc c.in_ok-abc.places c.in_ok-verified.verified c.in_ok-abc.ensures.answers c.in_ok-verified.ensures.ok

pub returns-in_err-abc-clause-taken : goal.returns-in_err-abc-clause-taken
returns-in_err-abc-clause-taken g c = c.in_err-abc.ensures.taken

pub returns-in_err-verified-clause-taken : goal.returns-in_err-verified-clause-taken
returns-in_err-verified-clause-taken g c = c.in_ok-abc.ensures.taken

pub returns-clause-taken : goal.returns-clause-taken
returns-clause-taken g c = c.in_ok-abc.ensures.taken
