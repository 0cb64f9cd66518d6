use Rattle.std.proofs.Common.{◌≢◌, ◌∙◌, sym, ap, subst}
use Rattle.abc_machine.specs.Ended.{HasRun, RunsAs}
use Rattle.abc_machine.specs.Runs.{LeavesWorld}
use Rattle.abc_machine.specs.Spent.{end_for}
use Rattle.abc_machine.specs.declared.ends.End.{End}
use Rattle.abc_machine.specs.declared.ends.End.TheVariants.{WriteFault}
use Rattle.abc_meaning.specs.Meaning.{ran, runs_for}
use Rattle.abc_meaning.specs.Openings.{setting}
use Rattle.abc_machine.proofs.Untold.{has_run, run_leaves, run_replied}
use Rattle.abc_machine.proofs.running.run_for.Goals as goal

pub returns-clause-runs : goal.returns-clause-runs
returns-clause-runs g c =
    let p = setting c.args.linked.now g.begun.formulas in
    subst (λ (e : End). RunsAs (ran (runs_for p c.args.fuel.now g.begun.first)) (g.K.Sink.written c.args.sink.now) (g.K.Sink.written c.take_steps.new.sink) e) (sym c.end_for.ensures) (run_replied p c.args.fuel.now g.begun.first (g.K.Sink.written c.args.sink.now) (g.K.Sink.written c.take_steps.new.sink) c.take_steps.result c.take_steps.ensures.replies)

pub returns-clause-cause : goal.returns-clause-cause
returns-clause-cause g c = subst (HasRun (g.K.Sink.faults c.args.sink.now) (g.K.Sink.faults c.take_steps.new.sink)) (sym c.end_for.ensures) (has_run (g.K.Sink.faults c.args.sink.now) (g.K.Sink.faults c.take_steps.new.sink) c.take_steps.result c.take_steps.ensures.cause)

pub returns-clause-leaves : goal.returns-clause-leaves
returns-clause-leaves g c =
    let p = setting c.args.linked.now g.begun.formulas in
    subst (λ (e : End). e ≢ WriteFault → LeavesWorld p (runs_for p c.args.fuel.now g.begun.first).world c.take_steps.new.s) (sym c.end_for.ensures) (run_leaves p c.args.fuel.now g.begun.first c.take_steps.result c.take_steps.new.s c.take_steps.ensures.leaves)

pub returns-clause-steps : goal.returns-clause-steps
returns-clause-steps g c = λ f. c.take_steps.ensures.steps (λ e. f (c.end_for.ensures ∙ ap end_for e))
