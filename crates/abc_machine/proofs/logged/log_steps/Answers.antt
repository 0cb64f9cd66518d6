use Rattle.std.proofs.Common.{◌∙◌, ℕ, refl, ap, subst, arith}
use Rattle.std.specs.Prelude.{IsSome, None}
use Rattle.abc_base.specs.Sinks.{GrowsByFront}
use Rattle.abc_meaning.specs.Calls.{replies_for}
use Rattle.abc_machine.proofs.Lined.{rose_on}
use Rattle.abc_meaning.specs.Lines.{end_line}
use Rattle.abc_meaning.specs.Logs.{logs_for}
use Rattle.abc_machine.specs.Logged.{HasAllBut}
use Rattle.abc_machine.proofs.Counting.{counted_to}
use Rattle.abc_machine.proofs.Invoking.{replied_so}
use Rattle.abc_machine.proofs.LoggedRuns.{ended_so, lines_begun, lines_end, lines_front, lines_on, well_on, well_reply}
use Rattle.abc_machine.proofs.Spending.{ended_on, went_on}
use Rattle.abc_meaning.specs.Meaning.{runs_for}
use Rattle.abc_meaning.specs.Openings.{setting}
use Rattle.abc_machine.proofs.logged.log_steps.Goals as goal

pub spend_logged-requires : goal.spend_logged-requires
spend_logged-requires g c = λ κs among. (among.0, (among.1, (c.loop-reply.invariant.at.can, (c.requires.1.1.1.0, c.loop-reply.invariant.seen))))

pub loop-reply-init : goal.loop-reply-init
loop-reply-init g c = record {
  at = c.requires.1.1.0;
  lines = lines_begun c.args.linked.now g.begun c.args.fuel.now (g.K.Sink.written c.args.log.now) c.requires.1.1.1.1.0;
  seen = c.requires.1.1.1.1.1;
  later = omega arith;
  few = omega arith;
  limit = refl;
}

pub loop-reply-preserved : goal.loop-reply-preserved
loop-reply-preserved g c =
    let well = well_on c.spend_logged.result c.in_default.field-0 c.in_default.is in
    let sofar = c.loop-reply.invariant.later in
    let later = c.spend_logged.ensures.later in
    let had = c.loop-reply.invariant.few in
    let few = c.spend_logged.ensures.few in
    record {
      at = went_on c.args.linked.now g.begun c.loop-reply.s c.spend_logged.new.s None None None c.loop-reply.fuel c.spend_logged.new.fuel c.spend_logged.result c.in_default.field-0 c.loop-reply.invariant.at c.in_default.is (c.spend_logged.ensures.spends well);
      lines = lines_on c.args.linked.now g.begun c.loop-reply.s c.spend_logged.new.s (g.K.Sink.written c.args.log.now) (g.K.Sink.written c.loop-reply.log) (g.K.Sink.written c.spend_logged.new.log) c.loop-reply.fuel c.spend_logged.new.fuel c.spend_logged.result c.in_default.field-0 c.loop-reply.invariant.at c.in_default.is (c.spend_logged.ensures.spends well) c.loop-reply.invariant.lines (c.spend_logged.ensures.whole well);
      seen = c.spend_logged.ensures.seen well;
      later = omega (arith, sofar, later);
      few = omega (arith, had, few);
      limit = c.spend_logged.ensures.limit ∙ c.loop-reply.invariant.limit;
    }

pub returns-in-Err-clause-reply : goal.returns-in-Err-clause-reply
returns-in-Err-clause-reply g c = λ f.
    let well = well_reply c.spend_logged.result c.in-Err.reply c.in-Err.is f in
    replied_so (replies_for (setting c.args.linked.now g.begun.formulas) c.args.fuel.now g.begun.first) None None c.in-Err.reply (ended_on c.args.linked.now g.begun c.loop-reply.s c.spend_logged.new.s None None None c.args.fuel.now c.loop-reply.fuel c.spend_logged.new.fuel c.spend_logged.result c.in-Err.reply c.requires.1.1.1.1.0 c.loop-reply.invariant.at c.in-Err.is (c.spend_logged.ensures.spends well)).answer f

pub returns-in-Err-clause-whole : goal.returns-in-Err-clause-whole
returns-in-Err-clause-whole g c = λ f.
    let well = well_reply c.spend_logged.result c.in-Err.reply c.in-Err.is f in
    let p = setting c.args.linked.now g.begun.formulas in
    let lines = lines_end c.args.linked.now g.begun c.loop-reply.s c.spend_logged.new.s (g.K.Sink.written c.args.log.now) (g.K.Sink.written c.loop-reply.log) (g.K.Sink.written c.spend_logged.new.log) c.loop-reply.fuel c.spend_logged.new.fuel c.spend_logged.result c.in-Err.reply f c.loop-reply.invariant.at c.in-Err.is (c.spend_logged.ensures.spends well) c.loop-reply.invariant.lines (c.spend_logged.ensures.whole well) in
    subst (λ (n : ℕ). HasAllBut (end_line c.args.linked.now.file (runs_for p n g.begun.first).end) (logs_for p n g.begun.first) (g.K.Sink.written c.args.log.now) (g.K.Sink.written c.spend_logged.new.log)) c.requires.1.1.1.1.0 lines

pub returns-in-Err-clause-front : goal.returns-in-Err-clause-front
returns-in-Err-clause-front g c = λ e.
    let front = lines_front c.args.linked.now g.begun c.loop-reply.s c.spend_logged.new.s (g.K.Sink.written c.args.log.now) (g.K.Sink.written c.loop-reply.log) (g.K.Sink.written c.spend_logged.new.log) c.loop-reply.fuel c.loop-reply.invariant.at c.loop-reply.invariant.lines (c.spend_logged.ensures.front (c.in-Err.is ∙ ap ended_so e)) in
    subst (λ (n : ℕ). IsSome (g.K.Sink.written c.args.log.now) → GrowsByFront (g.K.Sink.written c.args.log.now) (g.K.Sink.written c.spend_logged.new.log) (logs_for (setting c.args.linked.now g.begun.formulas) n g.begun.first)) c.requires.1.1.1.1.0 front

pub returns-in-Err-clause-cause : goal.returns-in-Err-clause-cause
returns-in-Err-clause-cause g c =
    let sofar = c.loop-reply.invariant.later in
    let later = c.spend_logged.ensures.later in
    record {
      later = omega (arith, sofar, later);
      failed = λ e. rose_on (g.K.Sink.faults c.args.log.now) (g.K.Sink.faults c.loop-reply.log) (g.K.Sink.faults c.spend_logged.new.log) sofar (c.spend_logged.ensures.cause (c.in-Err.is ∙ ap ended_so e));
    }

pub returns-in-Err-clause-leaves : goal.returns-in-Err-clause-leaves
returns-in-Err-clause-leaves g c = λ f.
    let well = well_reply c.spend_logged.result c.in-Err.reply c.in-Err.is f in
    (ended_on c.args.linked.now g.begun c.loop-reply.s c.spend_logged.new.s None None None c.args.fuel.now c.loop-reply.fuel c.spend_logged.new.fuel c.spend_logged.result c.in-Err.reply c.requires.1.1.1.1.0 c.loop-reply.invariant.at c.in-Err.is (c.spend_logged.ensures.spends well)).leaves f

pub returns-in-Err-clause-steps : goal.returns-in-Err-clause-steps
returns-in-Err-clause-steps g c = λ f.
    let well = well_reply c.spend_logged.result c.in-Err.reply c.in-Err.is f in
    counted_to c.args.linked.now g.begun c.loop-reply.s c.spend_logged.new.s None None None None c.args.fuel.now c.loop-reply.fuel c.spend_logged.new.fuel c.spend_logged.result c.in-Err.reply c.requires.1.1.1.1.0 c.loop-reply.invariant.at c.in-Err.is c.spend_logged.ensures.few (c.spend_logged.ensures.spends well) f
