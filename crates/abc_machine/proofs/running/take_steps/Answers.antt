use Rattle.std.proofs.Common.{◌∙◌, refl, sym, ap, arith}
use Rattle.abc_machine.proofs.Lined.{rose_on}
use Rattle.abc_machine.specs.Spent.{as_reply}
use Rattle.abc_machine.specs.declared.replies.Reply.TheVariants.{FuelSpent}
use Rattle.abc_machine.proofs.Counting.{counted_to}
use Rattle.abc_machine.proofs.LoggedRuns.{ended_so, failed_step}
use Rattle.abc_machine.proofs.Spending.{ended_on, ended_with_texts, went_on}
use Rattle.abc_machine.proofs.running.take_steps.Goals as goal

pub spend-requires : goal.spend-requires
spend-requires g c = λ κs among. (among.0, (among.1, (c.loop-rest.invariant.at.can, (c.requires.1.1.1.0, (omega arith, (c.loop-rest.invariant.held, (c.loop-rest.invariant.none, c.loop-rest.invariant.going)))))))

pub loop-rest-preserved-then-spend : goal.loop-rest-preserved-then-spend
loop-rest-preserved-then-spend g c =
    let sofar = c.loop-rest.invariant.later in
    let later = c.spend.ensures.leaves.later in
    let had = c.loop-rest.invariant.few in
    let taken = c.spend.ensures.taken in
    record {
      at = went_on c.args.linked.now g.begun c.loop-rest.s c.spend.new.s (g.K.Sink.written c.args.sink.now) (g.K.Sink.written c.loop-rest.sink) (g.K.Sink.written c.spend.new.sink) c.loop-rest.rest c.spend.new.fuel (as_reply c.spend.new.halted) tt c.loop-rest.invariant.at (ap as_reply (c.spend.ensures.goes c.if-spend.true)) c.spend.ensures.spends;
      later = omega (arith, sofar, later);
      few = omega (arith, had, taken);
      limit = c.spend.ensures.leaves.limit ∙ c.loop-rest.invariant.limit;
      held = c.spend.ensures.held;
      none = c.spend.ensures.none;
      going = (c.spend.ensures.goes c.if-spend.true);
    }

pub loop-rest-preserved : goal.loop-rest-preserved
loop-rest-preserved g c =
    let sofar = c.loop-rest.invariant.later in
    let later = c.spend.ensures.leaves.later in
    let had = c.loop-rest.invariant.few in
    let taken = c.spend.ensures.taken in
    record {
      at = went_on c.args.linked.now g.begun c.loop-rest.s c.spend.new.s (g.K.Sink.written c.args.sink.now) (g.K.Sink.written c.loop-rest.sink) (g.K.Sink.written c.spend.new.sink) c.loop-rest.rest c.spend.new.fuel (as_reply c.spend.new.halted) c.in_default.field-0 c.loop-rest.invariant.at (ap as_reply c.in_default.is) c.spend.ensures.spends;
      later = omega (arith, sofar, later);
      few = omega (arith, had, taken);
      limit = c.spend.ensures.leaves.limit ∙ c.loop-rest.invariant.limit;
      held = c.spend.ensures.held;
      none = c.spend.ensures.none;
      going = c.in_default.is;
    }

-- a step that ends
pub returns-in-Err-clause-replies : goal.returns-in-Err-clause-replies
returns-in-Err-clause-replies g c = (ended_on c.args.linked.now g.begun c.loop-rest.s c.spend.new.s (g.K.Sink.written c.args.sink.now) (g.K.Sink.written c.loop-rest.sink) (g.K.Sink.written c.spend.new.sink) c.args.fuel.now c.loop-rest.rest c.spend.new.fuel (as_reply c.spend.new.halted) c.reply_for.result c.requires.1.1.1.1 c.loop-rest.invariant.at (ap as_reply c.in-Err.is ∙ ap ended_so (sym c.reply_for.ensures)) c.spend.ensures.spends).answer

pub returns-in-Err-clause-cause : goal.returns-in-Err-clause-cause
returns-in-Err-clause-cause g c =
    let sofar = c.loop-rest.invariant.later in
    let later = c.spend.ensures.leaves.later in
    record {
      later = omega (arith, sofar, later);
      failed = λ e. rose_on (g.K.Sink.faults c.args.sink.now) (g.K.Sink.faults c.loop-rest.sink) (g.K.Sink.faults c.spend.new.sink) sofar (c.spend.ensures.leaves.cause (failed_step c.spend.new.halted c.in-Err.halt c.reply_for.result c.in-Err.is c.reply_for.ensures (ap ended_so e)));
    }

pub returns-in-Err-clause-leaves : goal.returns-in-Err-clause-leaves
returns-in-Err-clause-leaves g c = (ended_on c.args.linked.now g.begun c.loop-rest.s c.spend.new.s (g.K.Sink.written c.args.sink.now) (g.K.Sink.written c.loop-rest.sink) (g.K.Sink.written c.spend.new.sink) c.args.fuel.now c.loop-rest.rest c.spend.new.fuel (as_reply c.spend.new.halted) c.reply_for.result c.requires.1.1.1.1 c.loop-rest.invariant.at (ap as_reply c.in-Err.is ∙ ap ended_so (sym c.reply_for.ensures)) c.spend.ensures.spends).leaves

pub returns-in-Err-clause-steps : goal.returns-in-Err-clause-steps
returns-in-Err-clause-steps g c = λ f.
    let taken = c.spend.ensures.taken in
    counted_to c.args.linked.now g.begun c.loop-rest.s c.spend.new.s (g.K.Sink.written c.args.sink.now) (g.K.Sink.written c.loop-rest.sink) (g.K.Sink.written c.spend.new.sink) (g.K.Sink.written c.loop-rest.sink) c.args.fuel.now c.loop-rest.rest c.spend.new.fuel (as_reply c.spend.new.halted) c.reply_for.result c.requires.1.1.1.1 c.loop-rest.invariant.at (ap as_reply c.in-Err.is ∙ ap ended_so (sym c.reply_for.ensures)) (omega (arith, taken)) c.spend.ensures.spends f

pub returns-in-Err-clause-texts : goal.returns-in-Err-clause-texts
returns-in-Err-clause-texts g c = ended_with_texts c.args.linked.now g.begun c.loop-rest.s c.spend.new.s (g.K.Sink.written c.args.sink.now) (g.K.Sink.written c.loop-rest.sink) (g.K.Sink.written c.spend.new.sink) c.loop-rest.rest c.spend.new.fuel (as_reply c.spend.new.halted) c.reply_for.result c.loop-rest.invariant.at (ap as_reply c.in-Err.is ∙ ap ended_so (sym c.reply_for.ensures)) c.spend.ensures.spends

-- no fuel is left
pub returns-clause-replies : goal.returns-clause-replies
returns-clause-replies g c = (ended_on c.args.linked.now g.begun c.loop-rest.s c.loop-rest.s (g.K.Sink.written c.args.sink.now) (g.K.Sink.written c.loop-rest.sink) (g.K.Sink.written c.loop-rest.sink) c.args.fuel.now c.loop-rest.rest c.loop-rest.rest (ended_so FuelSpent) FuelSpent c.requires.1.1.1.1 c.loop-rest.invariant.at refl (omega arith, record { state = refl; sink = refl })).answer

pub returns-clause-leaves : goal.returns-clause-leaves
returns-clause-leaves g c = (ended_on c.args.linked.now g.begun c.loop-rest.s c.loop-rest.s (g.K.Sink.written c.args.sink.now) (g.K.Sink.written c.loop-rest.sink) (g.K.Sink.written c.loop-rest.sink) c.args.fuel.now c.loop-rest.rest c.loop-rest.rest (ended_so FuelSpent) FuelSpent c.requires.1.1.1.1 c.loop-rest.invariant.at refl (omega arith, record { state = refl; sink = refl })).leaves

pub returns-clause-steps : goal.returns-clause-steps
returns-clause-steps g c = λ f.
    counted_to c.args.linked.now g.begun c.loop-rest.s c.loop-rest.s (g.K.Sink.written c.args.sink.now) (g.K.Sink.written c.loop-rest.sink) (g.K.Sink.written c.loop-rest.sink) (g.K.Sink.written c.loop-rest.sink) c.args.fuel.now c.loop-rest.rest c.loop-rest.rest (ended_so FuelSpent) FuelSpent c.requires.1.1.1.1 c.loop-rest.invariant.at refl (omega arith) (omega arith, record { state = refl; sink = refl }) f

pub returns-clause-texts : goal.returns-clause-texts
returns-clause-texts g c = c.loop-rest.invariant.at.texts
