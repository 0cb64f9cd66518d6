use Rattle.std.proofs.Common.{◌≢◌, ◌∙◌, sym}
use Rattle.std.specs.Prelude.{Err, None}
use Rattle.abc_machine.proofs.LoggedRuns.{failed_step, front_for, none_for, well_step, whole_for}
use Rattle.abc_machine.proofs.Spending.{ended_as, went_as}
use Rattle.abc_run_finish.specs.declared.halts.Halt.TheVariants.{Fails}
use Rattle.abc_machine.proofs.logged.spend_logged.Goals as goal

pub step_logged-requires : goal.step_logged-requires
step_logged-requires g c = λ κs among. (among.0, (among.1, (c.requires.1.1.0, (c.requires.1.1.1.0, c.requires.1.1.1.1))))

pub returns-then-fuel-eq0-clause-whole : goal.returns-then-fuel-eq0-clause-whole
returns-then-fuel-eq0-clause-whole g c = λ f some. none_for c.args.linked.now g.out c.args.s.now c.args.fuel.now (g.K.Sink.written c.args.log.now) c.if-fuel-eq0.true

-- a step that goes on
pub returns-in-Ok-clause-spends : goal.returns-in-Ok-clause-spends
returns-in-Ok-clause-spends g c = λ f.
    let well : c.step_logged.result ≢ Err Fails = λ e. absurd (let other = sym c.in-Ok.is ∙ e in cc) in
    went_as c.args.linked.now g.out c.args.s.now c.step_logged.new.s c.args.fuel.now c.step_logged.result c.in-Ok.field-0 None None c.requires.1.1.0 c.in-Ok.is c.if-fuel-eq0.false (c.step_logged.ensures.logs.step well) c.step_logged.ensures.leaves.sized c.step_logged.ensures.leaves.limit

pub returns-in-Ok-clause-whole : goal.returns-in-Ok-clause-whole
returns-in-Ok-clause-whole g c = λ f.
    let well : c.step_logged.result ≢ Err Fails = λ e. absurd (let other = sym c.in-Ok.is ∙ e in cc) in
    whole_for c.args.linked.now g.out c.args.s.now c.args.fuel.now (g.K.Sink.written c.args.log.now) (g.K.Sink.written c.step_logged.new.log) c.if-fuel-eq0.false (c.step_logged.ensures.logs.whole well)

pub returns-in-Ok-clause-seen : goal.returns-in-Ok-clause-seen
returns-in-Ok-clause-seen g c = λ f. c.step_logged.ensures.seen (λ e. absurd (let other = sym c.in-Ok.is ∙ e in cc))

-- one that ends
pub returns-in-Err-clause-spends : goal.returns-in-Err-clause-spends
returns-in-Err-clause-spends g c = λ f.
    ended_as c.args.linked.now g.out c.args.s.now c.step_logged.new.s c.args.fuel.now c.step_logged.result c.in-Err.halt c.reply_for.result None None c.in-Err.is c.reply_for.ensures c.if-fuel-eq0.false (c.step_logged.ensures.logs.step (well_step c.step_logged.result c.in-Err.halt c.reply_for.result c.in-Err.is c.reply_for.ensures f)) c.step_logged.ensures.value c.step_logged.ensures.leaves.sized

pub returns-in-Err-clause-whole : goal.returns-in-Err-clause-whole
returns-in-Err-clause-whole g c = λ f.
    whole_for c.args.linked.now g.out c.args.s.now c.args.fuel.now (g.K.Sink.written c.args.log.now) (g.K.Sink.written c.step_logged.new.log) c.if-fuel-eq0.false (c.step_logged.ensures.logs.whole (well_step c.step_logged.result c.in-Err.halt c.reply_for.result c.in-Err.is c.reply_for.ensures f))

pub returns-in-Err-clause-front : goal.returns-in-Err-clause-front
returns-in-Err-clause-front g c = λ e.
    front_for c.args.linked.now g.out c.args.s.now c.args.fuel.now (g.K.Sink.written c.args.log.now) (g.K.Sink.written c.step_logged.new.log) c.if-fuel-eq0.false (c.step_logged.ensures.logs.front (failed_step c.step_logged.result c.in-Err.halt c.reply_for.result c.in-Err.is c.reply_for.ensures e))

pub returns-in-Err-clause-seen : goal.returns-in-Err-clause-seen
returns-in-Err-clause-seen g c = λ f. c.step_logged.ensures.seen (well_step c.step_logged.result c.in-Err.halt c.reply_for.result c.in-Err.is c.reply_for.ensures f)

pub returns-in-Err-clause-cause : goal.returns-in-Err-clause-cause
returns-in-Err-clause-cause g c = λ e. c.step_logged.ensures.leaves.cause (failed_step c.step_logged.result c.in-Err.halt c.reply_for.result c.in-Err.is c.reply_for.ensures e)
