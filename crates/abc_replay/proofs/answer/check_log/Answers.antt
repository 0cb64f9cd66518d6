use Rattle.std.proofs.lemmas.Result.{err_from_is_err_and}
use Rattle.abc_replay.proofs.Judged.{answers_log, no_memory_answers}
use Rattle.abc_replay.proofs.answer.check_log.Goals as goal

pub returns-in_err-steps-clause-answers : goal.returns-in_err-steps-clause-answers
returns-in_err-steps-clause-answers g c =
    let p = err_from_is_err_and c.from_residual.result c.from_residual.ensures.1 in
    let f = c.args.preface in
    rw (p.1, p.2) (no_memory_answers (g.H.Host.formulas c.args.host.now) (g.S.Source.left c.args.source.now) (g.S.Source.left c.compare_log-compared.new.source) f.verified f.line f.place)

pub returns-clause-answers : goal.returns-clause-answers
returns-clause-answers g c =
    let f = c.args.preface in
    answers_log (g.H.Host.formulas c.args.host.now) (g.S.Source.left c.args.source.now) (g.S.Source.left c.compare_log-compared.new.source) (g.S.Source.left c.judge.new.source)
    f.verified f.line f.place c.in_ok-steps.steps (g.S.Source.faults c.args.source.now) (g.S.Source.faults c.compare_log-compared.new.source) c.compare_log-compared.result.agreed c.compare_log-compared.result.verdict
    (g.met.H.Host.formed c.args.host.now) (rw c.in_ok-steps.was at c.compare_log-compared.ensures.compared) c.judge.result c.judge.ensures.steps c.judge.ensures.end c.judge.ensures.fault
