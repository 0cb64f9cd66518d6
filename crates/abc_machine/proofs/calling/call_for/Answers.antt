use Rattle.std.proofs.Common.{[], refl}
use Rattle.abc_base.specs.Hosts.{plain_arguments}
use Rattle.abc_run_finish.proofs.Listed.{each_number}
use Rattle.abc_run_state.specs.Outer.{Outer}
use Rattle.abc_machine.proofs.Asking.{ends, goes, goes_left}
use Rattle.abc_machine.proofs.Called.{begins_reached, can_begin}
use Rattle.abc_machine.proofs.Opening.{at_start}
use Rattle.abc_machine.proofs.TextsKept.{begun_texts, texts_on}
use Rattle.abc_machine.proofs.calling.call_for.Goals as goal

pub begin_call-requires : goal.begin_call-requires
begin_call-requires g c =
    can_begin c.args.linked.now (record { formulas = g.formulas; wrote = [] }) c.args.method c.args.s.now (plain_arguments c.args.args.now) c.requires.1.1.0 (each_number c.args.args.now)

pub take_steps-requires : goal.take_steps-requires
take_steps-requires g c =
    let out : Outer = record { formulas = g.formulas; wrote = [] } in
    let begun = c.begin_call.ensures in
    let reached = begins_reached c.args.linked.now out c.args.method c.args.s.now (plain_arguments c.args.args.now) c.requires.1.1.0 (each_number c.args.args.now) c.begin_call.new.s c.begin_call.result c.in-Ok.field-0 c.in-Ok.is begun.step begun.sized begun.limit in
    λ κs among. (among.0, (among.1, (at_start c.args.linked.now g.formulas c.begin_call.new.s c.args.fuel (g.K.Sink.written c.args.sink.now) reached, (c.requires.1.1.1, refl))))

pub returns-in-Ok-clause-replies : goal.returns-in-Ok-clause-replies
returns-in-Ok-clause-replies g c =
    goes c.args.linked.now g.formulas c.args.s.now c.begin_call.new.s c.args.fuel c.args.method (plain_arguments c.args.args.now) c.begin_call.result c.begin_call.ensures.step c.in-Ok.field-0 (g.K.Sink.written c.args.sink.now) (g.K.Sink.written c.take_steps.new.sink) c.take_steps.result c.in-Ok.is c.take_steps.ensures.replies

pub returns-in-Ok-clause-leaves : goal.returns-in-Ok-clause-leaves
returns-in-Ok-clause-leaves g c =
    goes_left c.args.linked.now g.formulas c.args.s.now c.begin_call.new.s c.args.fuel c.args.method (plain_arguments c.args.args.now) c.begin_call.result c.begin_call.ensures.step c.in-Ok.field-0 c.take_steps.new.s c.take_steps.result c.in-Ok.is c.take_steps.ensures.leaves

pub returns-in-Err-clause-replies : goal.returns-in-Err-clause-replies
returns-in-Err-clause-replies g c =
    (ends c.args.linked.now g.formulas c.args.s.now c.begin_call.new.s c.args.fuel c.args.method (plain_arguments c.args.args.now) c.begin_call.result c.begin_call.ensures.step c.in-Err.ended (g.K.Sink.written c.args.sink.now) c.reply_for.result c.in-Err.is c.reply_for.ensures c.begin_call.ensures.sized).answer

pub returns-in-Err-clause-leaves : goal.returns-in-Err-clause-leaves
returns-in-Err-clause-leaves g c =
    (ends c.args.linked.now g.formulas c.args.s.now c.begin_call.new.s c.args.fuel c.args.method (plain_arguments c.args.args.now) c.begin_call.result c.begin_call.ensures.step c.in-Err.ended (g.K.Sink.written c.args.sink.now) c.reply_for.result c.in-Err.is c.reply_for.ensures c.begin_call.ensures.sized).leaves

pub returns-in-Ok-clause-texts : goal.returns-in-Ok-clause-texts
returns-in-Ok-clause-texts g c =
    let out : Outer = record { formulas = g.formulas; wrote = [] } in
    let begun = begun_texts c.args.linked.now out c.args.method c.args.s.now c.begin_call.new.s (plain_arguments c.args.args.now) c.begin_call.result c.requires.1.1.0 (each_number c.args.args.now) c.begin_call.ensures.step in
    texts_on c.args.s.now.arena c.begin_call.new.s.arena c.take_steps.new.s.arena begun c.take_steps.ensures.texts

pub returns-in-Err-clause-texts : goal.returns-in-Err-clause-texts
returns-in-Err-clause-texts g c =
    begun_texts c.args.linked.now (record { formulas = g.formulas; wrote = [] }) c.args.method c.args.s.now c.begin_call.new.s (plain_arguments c.args.args.now) c.begin_call.result c.requires.1.1.0 (each_number c.args.args.now) c.begin_call.ensures.step
