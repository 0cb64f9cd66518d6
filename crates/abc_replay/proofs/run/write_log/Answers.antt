use Rattle.std.proofs.Common.{ℕ}
use Rattle.abc_meaning.specs.Logs.{log, steps}
use Rattle.abc_log.specs.Lines.{limit_end}
use Rattle.abc_meaning.specs.Openings.{setting}
use Rattle.abc_replay.proofs.Written.{small_written}
use Rattle.abc_replay.proofs.run.write_log.Goals as goal

pub returns-in-Err-TooSmall-clause-written : goal.returns-in-Err-TooSmall-clause-written
returns-in-Err-TooSmall-clause-written g c =
    let p = setting c.args.verified (g.H.Host.formulas c.args.host.now) in
    let limits = c.args.line.now.limits in
    let fuel : ℕ = c.args.line.now.fuel in
    let limit = c.in-Err-TooSmall.limit in
    small_written (log p limits fuel) (limit_end limit) (steps p limits fuel) c.log_unbegun.result _ _ _ _ (c.too_small_is_one_line.ensures p limits fuel limit (rw c.in-Err-TooSmall.field-0-is at c.in-Err-TooSmall.ensures)) c.log_unbegun.ensures
