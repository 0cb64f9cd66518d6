use Rattle.std.proofs.Common.{◌≡◌, ℕ, List, sym, ◌∙◌, subst}
use Rattle.std.specs.Prelude.{Bool, None}
use Rattle.std.specs.declared.result.Result.{Result}
use Rattle.abc_base.specs.Sinks.{WritesAll}
use Rattle.abc_machine.proofs.Sounding.{can_start, scripts_few, scripts_there}
use Rattle.abc_run_finish.specs.Steps.{step_here}
use Rattle.abc_run_finish.specs.declared.halts.Halt.{Halt}
use Rattle.abc_machine.specs.Logging.{LogsAs}
use Rattle.abc_machine.proofs.Lined.{returns_in, rose_if}
use Rattle.abc_machine.proofs.Noted.{few_flags, start_logs, step_one_more, steps_started}
use Rattle.abc_log.specs.Lines.{start_line}
use Rattle.abc_log.specs.Starts.{IsOneMore}
use Rattle.abc_machine.proofs.logging.start_logged.Goals as goal

pub start_last-done-requires : goal.start_last-done-requires
start_last-done-requires g c = can_start c.args.linked.now g.out c.args.s.now c.requires.1.0 c.requires.1.1.0

pub note-script-requires : goal.note-script-requires
note-script-requires g c =
    let l = c.args.linked.now in
    let s = c.args.s.now in
    let now = c.start_last-done.new.s.started in
    let same = steps_started (step_here l g.out s) g.out c.start_last-done.result c.start_last-done.new.s None None c.start_last-done.ensures.ends (c.start_last-done.ensures.step None) in
    let more : IsOneMore s.started now = subst (IsOneMore s.started) same (step_one_more l g.out s) in
    record { more = subst (λ (bs : List Bool). IsOneMore bs now) (sym c.requires.1.1.1) more; few = few_flags l g.out s now c.requires.1.0 more }

pub last_number-requires : goal.last_number-requires
last_number-requires g c = record { scripts = scripts_there c.args.linked.now g.out c.args.s.now c.requires.1.0; few = scripts_few c.args.linked.now g.out c.args.s.now c.requires.1.0 }

pub returns-clause-logs : goal.returns-clause-logs
returns-clause-logs g c =
    let l = c.args.linked.now in
    let s = c.args.s.now in
    let new = c.start_last-done.new.s in
    let before = g.K.Sink.written c.args.log.now in
    let after = g.K.Sink.written c.write_start_line-written.new.log in
    let line = subst (λ (n : ℕ). WritesAll before after c.write_start_line-written.result (start_line n)) (c.last_number.ensures g.out) c.write_start_line-written.ensures.bytes in
    let logs = start_logs l g.out s c.requires.1.1.0 c.write_start_line-written.result c.start_last-done.result new before after c.start_last-done.ensures.ends (c.start_last-done.ensures.step None) line in
    subst (λ (r : Result Unit Halt). LogsAs l g.out s r new before after) (sym c.if_written.ensures) logs

pub returns-clause-none : goal.returns-clause-none
returns-clause-none g c = λ v e. c.start_last-done.ensures.none v (returns_in c.write_start_line-written.result c.start_last-done.result v (sym c.if_written.ensures ∙ e))

pub returns-clause-leaves : goal.returns-clause-leaves
returns-clause-leaves g c = record {
  sized = λ h. c.start_last-done.ensures.sized;
  later = c.write_start_line-written.ensures.cause.later;
  cause = λ e. rose_if (g.K.Sink.faults c.args.log.now) (g.K.Sink.faults c.write_start_line-written.new.log) c.write_start_line-written.result c.start_last-done.result c.write_start_line-written.ensures.cause (λ q. absurd (c.start_last-done.ensures.ends q)) (sym c.if_written.ensures ∙ e);
  limit = c.start_last-done.ensures.limit;
}
