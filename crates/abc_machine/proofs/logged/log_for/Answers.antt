use Rattle.std.proofs.Common.{◌≢◌, ◌∙◌, ap, sym, subst}
use Rattle.abc_machine.specs.Runs.{LeavesWorld}
use Rattle.abc_machine.specs.Spent.{end_for}
use Rattle.abc_machine.specs.declared.ends.End.{End}
use Rattle.abc_machine.specs.declared.ends.End.TheVariants.{WriteFault}
use Rattle.abc_machine.proofs.Closing.{cause_err, cause_ok, logs_err, logs_ok}
use Rattle.abc_machine.proofs.Untold.{run_leaves}
use Rattle.abc_meaning.specs.Meaning.{runs_for}
use Rattle.abc_meaning.specs.Openings.{setting}
use Rattle.abc_machine.proofs.logged.log_for.Goals as goal

pub returns-in-Ok-clause-logs : goal.returns-in-Ok-clause-logs
returns-in-Ok-clause-logs g c = logs_ok c.args.linked.now g.begun.formulas c.args.fuel.now g.begun.first (g.K.Sink.written c.args.log.now) (g.K.Sink.written c.log_steps.new.log) (g.K.Sink.written c.write_end.new.log) c.write_end.result c.log_steps.result c.end_for-end.result c.end_for-end.ensures c.in-Ok.is (record { answers = c.log_steps.ensures.reply; lines = c.log_steps.ensures.whole; front = c.log_steps.ensures.front }) c.write_end.ensures.bytes (λ e. ap g.K.Sink.written (c.write_end.ensures.none e).1)

pub returns-in-Ok-clause-cause : goal.returns-in-Ok-clause-cause
returns-in-Ok-clause-cause g c = cause_ok (g.K.Sink.faults c.args.log.now) (g.K.Sink.faults c.log_steps.new.log) (g.K.Sink.faults c.write_end.new.log) c.log_steps.result c.end_for-end.result c.end_for-end.ensures c.log_steps.ensures.cause c.write_end.ensures.cause.later

pub returns-in-Ok-clause-leaves : goal.returns-in-Ok-clause-leaves
returns-in-Ok-clause-leaves g c =
    let p = setting c.args.linked.now g.begun.formulas in
    subst (λ (e : End). e ≢ WriteFault → LeavesWorld p (runs_for p c.args.fuel.now g.begun.first).world c.log_steps.new.s) (sym c.end_for-end.ensures) (run_leaves p c.args.fuel.now g.begun.first c.log_steps.result c.log_steps.new.s c.log_steps.ensures.leaves)

pub returns-in-Ok-clause-steps : goal.returns-in-Ok-clause-steps
returns-in-Ok-clause-steps g c = λ f. c.log_steps.ensures.steps (λ e. f (c.end_for-end.ensures ∙ ap end_for e))

pub returns-in-Err-clause-logs : goal.returns-in-Err-clause-logs
returns-in-Err-clause-logs g c = logs_err c.args.linked.now g.begun.formulas c.args.fuel.now g.begun.first (g.K.Sink.written c.args.log.now) (g.K.Sink.written c.log_steps.new.log) (g.K.Sink.written c.write_end.new.log) c.write_end.result c.log_steps.result c.end_for-end.result c.in-Err.field-0 c.end_for-end.ensures c.in-Err.is (record { answers = c.log_steps.ensures.reply; lines = c.log_steps.ensures.whole; front = c.log_steps.ensures.front }) c.write_end.ensures.bytes (λ e. (c.write_end.ensures.none e).0)

pub returns-in-Err-clause-cause : goal.returns-in-Err-clause-cause
returns-in-Err-clause-cause g c = cause_err (g.K.Sink.faults c.args.log.now) (g.K.Sink.faults c.log_steps.new.log) (g.K.Sink.faults c.write_end.new.log) c.log_steps.result c.log_steps.ensures.cause c.write_end.ensures.cause.later c.in-Err.ensures.cause.failed
