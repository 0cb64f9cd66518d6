use Rattle.std.proofs.Common.{take}
use Rattle.std.proofs.lemmas.Result.{err_from_is_err_and}
use Rattle.abc_log.proofs.Lined.{line_length, no_limits_in, no_limits_other}
use Rattle.abc_log.proofs.limits.read_limits.Goals as goal

pub returns-in_err-count-clause-wrong : goal.returns-in_err-count-clause-wrong
returns-in_err-count-clause-wrong g c = λ e.
    let p = err_from_is_err_and c.from_residual.result c.from_residual.ensures.1 in
    no_limits_in (g.S.Source.left c.args.source.now) (c.in_err-count.ensures.wrong (cc (p.1, p.2, e)))

pub returns-in_default-clause-wrong : goal.returns-in_default-clause-wrong
returns-in_default-clause-wrong g c = λ e.
    no_limits_other (g.S.Source.left c.args.source.now) (g.S.Source.left c.read_line.new.source) (take c.in_ok-count.count c.read_line.new.line) c.in_ok-count.ensures.one c.in_ok-count.ensures.line c.in_default.ensures.none

pub returns-clause-long : goal.returns-clause-long
returns-clause-long g c = line_length c.read_line.new.line c.in_ok-count.count _ _ c.in_ok-count.ensures.within c.in-Some.ensures.some
