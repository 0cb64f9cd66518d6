use Rattle.std.proofs.Common.{◌∙◌}
use Rattle.abc_meaning.specs.Openings.{setting}
use Rattle.abc_meaning.specs.Logs.{log, steps}
use Rattle.abc_meaning.specs.Meaning.{meaning}
use Rattle.abc_replay.proofs.Written.{run_written}
use Rattle.abc_replay.proofs.run.log_run.Goals as goal

pub run_logged-requires : goal.run_logged-requires
run_logged-requires g c = λ begun. c.requires.names

pub returns : goal.returns
returns g c =
    let p = setting c.args.machine.now.linked (g.H.Host.formulas c.args.host.now) in
    let limits = c.args.machine.now.limits in
    run_written (log p limits c.args.fuel) (meaning p limits c.args.fuel) (steps p limits c.args.fuel) c.from.result _ _ _ _ c.run_logged.result
    (c.run_logged.ensures.logs c.requires.begun) (c.run_logged.ensures.cause c.requires.begun) (λ went. c.from.ensures ∙ c.steps.ensures ∙ (c.run_logged.ensures.leaves c.requires.begun).steps went)
