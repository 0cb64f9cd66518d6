use Rattle.std.proofs.Common.{◌≡◌, ◌∙◌, List, refl, sym, ap, subst, arith}
use Rattle.std.specs.Prelude.{Bool, Err}
use Rattle.abc_run_calls.specs.Arguments.{HasArgumentRoom}
use Rattle.abc_machine.proofs.Sounding.{scripts_there}
use Rattle.abc_run_finish.specs.declared.halts.Halt.TheVariants.{Fails}
use Rattle.abc_machine.proofs.Lined.{rose_on}
use Rattle.abc_machine.proofs.Noted.{few_flags, left_one_more, logs_front, logs_on, seen_left}
use Rattle.abc_log.specs.Starts.{IsOneMore, started_from}
use Rattle.abc_machine.proofs.Reached.{can_step, equipped, fair_left, returned_left}
use Rattle.abc_machine.proofs.logging.run_logged.Goals as goal

pub run_newest-requires : goal.run_newest-requires
run_newest-requires g c = (can_step c.args.linked.now g.out c.args.s.now c.requires.1.1.0 c.requires.1.1.1.0, (equipped c.args.linked.now g.out c.args.s.now c.requires.1.1.0 c.requires.1.1.1.0, refl))

pub note-script-requires : goal.note-script-requires
note-script-requires g c =
    let l = c.args.linked.now in
    let s = c.args.s.now in
    let now = c.run_newest.new.s.started in
    let more = left_one_more l g.out s c.requires.1.1.0 c.requires.1.1.1.0 c.run_newest.new.left c.run_newest.new.s c.run_newest.ensures.leaves in
    record { more = subst (λ (bs : List Bool). IsOneMore bs now) (sym c.requires.1.1.1.1.1) more; few = few_flags l g.out s now c.requires.1.1.0 more }

pub finish_logged-requires : goal.finish_logged-requires
finish_logged-requires g c =
    let l = c.args.linked.now in
    let s = c.args.s.now in
    let known = subst (HasArgumentRoom l) (sym c.run_newest.ensures.limit) c.requires.1.1.0.known in
    let fair = fair_left l g.out s c.requires.1.1.0 c.requires.1.1.1.0 c.run_newest.new.left c.run_newest.new.s c.run_newest.ensures.leaves in
    λ κs among. (among.0, (among.1, (known, (scripts_there l g.out s c.requires.1.1.0, (c.requires.1.1.1.1.0, (c.run_newest.ensures.finishes, fair))))))

pub returns-in-Ok-clause-logs : goal.returns-in-Ok-clause-logs
returns-in-Ok-clause-logs g c =
    let l = c.args.linked.now in
    let s = c.args.s.now in
    let new = c.run_newest.new.s in
    let script : c.note-script.result ≡ started_from 0 s.started new.started = c.note-script.ensures.script ∙ ap (λ (bs : List Bool). started_from 0 bs new.started) c.requires.1.1.1.1.1 in
    logs_on l g.out s c.requires.1.1.0 c.requires.1.1.1.0 c.run_newest.new.left new c.run_newest.ensures.leaves c.note-script.result c.method-method.result c.place-place.result script c.method-method.ensures c.place-place.ensures c.finish_logged.result c.finish_logged.new.s (g.K.Sink.written c.args.log.now) (g.K.Sink.written c.write_line.new.log) (g.K.Sink.written c.finish_logged.new.log) c.in-Ok.ensures.bytes c.finish_logged.ensures.logs

pub returns-in-Ok-clause-value : goal.returns-in-Ok-clause-value
returns-in-Ok-clause-value g c = λ v e. returned_left c.args.linked.now g.out c.args.s.now c.requires.1.1.0 c.requires.1.1.1.0 c.run_newest.new.left c.run_newest.new.s c.run_newest.ensures.leaves v (c.finish_logged.ensures.value v e)

pub returns-in-Ok-clause-seen : goal.returns-in-Ok-clause-seen
returns-in-Ok-clause-seen g c = λ f. c.note-script.ensures.seen ∙ seen_left c.args.linked.now g.out c.args.s.now c.requires.1.1.0 c.requires.1.1.1.0 c.run_newest.new.left c.run_newest.new.s c.run_newest.ensures.leaves c.finish_logged.result c.finish_logged.new.s (g.K.Sink.written c.write_line.new.log) (g.K.Sink.written c.finish_logged.new.log) c.finish_logged.ensures.logs f

pub returns-in-Ok-clause-leaves : goal.returns-in-Ok-clause-leaves
returns-in-Ok-clause-leaves g c =
    let left = c.finish_logged.ensures.leaves in
    let wrote = c.write_line.ensures.cause.later in
    let more = left.later in
    record {
      sized = left.sized;
      later = omega (arith, wrote, more);
      cause = λ e. rose_on (g.K.Sink.faults c.args.log.now) (g.K.Sink.faults c.write_line.new.log) (g.K.Sink.faults c.finish_logged.new.log) wrote (left.cause e);
      limit = left.limit ∙ c.run_newest.ensures.limit;
    }

-- where the line can't be written
pub returns-in-Err-clause-logs : goal.returns-in-Err-clause-logs
returns-in-Err-clause-logs g c =
    let l = c.args.linked.now in
    let s = c.args.s.now in
    let new = c.run_newest.new.s in
    let script : c.note-script.result ≡ started_from 0 s.started new.started = c.note-script.ensures.script ∙ ap (λ (bs : List Bool). started_from 0 bs new.started) c.requires.1.1.1.1.1 in
    logs_front l g.out s c.requires.1.1.0 c.requires.1.1.1.0 c.run_newest.new.left new c.run_newest.ensures.leaves c.note-script.result c.method-method.result c.place-place.result script c.method-method.ensures c.place-place.ensures new (g.K.Sink.written c.args.log.now) (g.K.Sink.written c.write_line.new.log) c.in-Err.ensures.bytes
