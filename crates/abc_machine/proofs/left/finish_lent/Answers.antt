use Rattle.std.proofs.Common.{◌≡◌, ℕ, List, [], ◌∷◌, refl, sym, ap, ◌∙◌, subst, arith}
use Rattle.std.specs.Prelude.{Err}
use Rattle.std.specs.declared.result.Result.{Result}
use Rattle.abc_base.specs.Faults.{Rose}
use Rattle.abc_log.proofs.Following.{bytes_noted, number_noted}
use Rattle.abc_log.specs.Followed.{bytes_in, noted_number}
use Rattle.abc_run_finish.specs.Steps.{left_here}
use Rattle.abc_run_finish.specs.declared.halts.Halt.{Halt}
use Rattle.abc_machine.specs.Logging.{LogsLeft}
use Rattle.abc_machine.proofs.Lined.{fails_on, logs_if, no_rose, returns_in, rose_if, same_start}
use Rattle.abc_log.specs.OutLines.{bytes_shown, start_of_line}
use Rattle.abc_run_state.specs.Outer.{world}
use Rattle.abc_machine.proofs.left.finish_lent.Goals as goal

pub returns-clause-logs : goal.returns-clause-logs
returns-clause-logs g c =
    let l = c.args.linked.now in
    let s = c.args.s.now in
    let line = c.new-line.result in
    let now = c.finish-done.new.sink in
    let before = g.K.Sink.written c.args.log.now in
    let after = g.K.Sink.written c.end-back.result.0.now in
    let at : bytes_in (start_of_line line) ≡ before = ap bytes_in c.new-line.ensures.start ∙ bytes_noted (c.args.log.ghost_name ∷ []) (g.K.Sink.faults c.args.log.now) before in
    let done = logs_if (left_here l g.out s c.args.left) g.out (world s g.out) refl c.finish-done.new.s (start_of_line line) (start_of_line now) (bytes_shown line) (bytes_shown now) c.new-line.ensures.bytes before after at c.end-back.result.1 c.finish-done.result c.finish-done.ensures.step c.end-back.ensures.line (λ e. c.end-back.ensures.front (no_rose _ _ (c.finish-done.ensures.leaves.cause e))) in
    subst (λ (r : Result Unit Halt). LogsLeft l g.out s c.args.left r c.finish-done.new.s before after) (sym c.if_written.ensures) done

pub returns-clause-value : goal.returns-clause-value
returns-clause-value g c = λ v e. c.finish-done.ensures.value v (returns_in c.end-back.result.1 c.finish-done.result v (sym c.if_written.ensures ∙ e))

pub returns-clause-leaves : goal.returns-clause-leaves
returns-clause-leaves g c =
    let s = c.args.s.now in
    let line = c.new-line.result in
    let now = c.finish-done.new.sink in
    let left = c.finish-done.ensures.leaves in
    let had = g.K.Sink.faults c.args.log.now in
    let has = g.K.Sink.faults c.end-back.result.0.now in
    let same = same_start (left_here c.args.linked.now g.out s c.args.left) g.out (world s g.out) refl c.finish-done.new.s (start_of_line line) (start_of_line now) (bytes_shown line) (bytes_shown now) c.new-line.ensures.bytes c.finish-done.result c.finish-done.ensures.step in
    let at : noted_number (start_of_line now) ≡ had = ap noted_number (same ∙ c.new-line.ensures.start) ∙ number_noted (c.args.log.ghost_name ∷ []) had (g.K.Sink.written c.args.log.now) in
    let later = c.end-back.ensures.cause.later in
    record {
      sized = λ f. left.sized (λ e. f (c.if_written.ensures ∙ fails_on c.end-back.result.1 c.finish-done.result e));
      later = omega (arith, at, later);
      cause = λ e.
          subst (λ (k : ℕ). Rose k has) at
          (rose_if (noted_number (start_of_line now)) has c.end-back.result.1 c.finish-done.result c.end-back.ensures.cause (λ q. (c.end-back.ensures.front (no_rose _ _ (left.cause q))).0) (sym c.if_written.ensures ∙ e));
      limit = left.limit;
    }
