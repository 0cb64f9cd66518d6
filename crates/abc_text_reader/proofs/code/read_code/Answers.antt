use Rattle.std.proofs.lemmas.Result.{err_from_is_err_and}
use Rattle.abc_text_reader.proofs.code.read_code.Goals as goal

pub returns-in_err-gather_code-clause-reads : goal.returns-in_err-gather_code-clause-reads
returns-in_err-gather_code-clause-reads c =
    let p = err_from_is_err_and c.from_residual.result c.from_residual.ensures.1 in
    rw (p.1, p.2) c.in_err-gather_code.ensures.reads

pub returns-in_err-code-clause-reads : goal.returns-in_err-code-clause-reads
returns-in_err-code-clause-reads c =
    let p = err_from_is_err_and c.from_residual-in_err-code.result c.from_residual-in_err-code.ensures.1 in
    rw (p.1, p.2) (λ n le. tt)

pub returns-clause-reads : goal.returns-clause-reads
returns-clause-reads c = rw c.in_ok-code.ensures.code c.in_ok-gather_code.ensures.reads
