use Rattle.std.proofs.Common.{◌≡◌, ◌≢◌, ℕ, ◌<◌, List, [], ◌∷◌, length, refl, sym, ◌∙◌, subst, arith}
use Rattle.std.specs.Prelude.{Ok, Err}
use Rattle.std.specs.declared.result.Result.{Result}
use Rattle.abc_heap_values.specs.declared.values.Value.{Value}
use Rattle.abc_run_calls.specs.Arguments.{HasArgumentRoom}
use Rattle.abc_machine.proofs.Sounding.{can_start, scripts_there}
use Rattle.abc_run_finish.specs.Steps.{StepsAs}
use Rattle.abc_run_finish.specs.declared.halts.Halt.{Halt}
use Rattle.abc_run_finish.specs.declared.halts.Halt.TheVariants.{Fails, Returns}
use Rattle.abc_frames.specs.Frame.{Frame}
use Rattle.abc_machine.proofs.Reached.{can_step, equipped, fair_left, goes_sized, goes_step, returned_left, steps_left}
use Rattle.abc_machine.proofs.stepping.step_on.Goals as goal

none_left : (fs : List Frame) (n : ℕ) → n ≡ length fs → n ≡ 0 → fs ≡ []
none_left [] n e z = refl
none_left (f ∷ fs) n e z = absurd (omega (arith, e, z))

some_left : (fs : List Frame) (n : ℕ) → n ≡ length fs → n ≢ 0 → 0 < length fs
some_left fs n e z = omega (arith, e, z)

-- what goes on doesn't end
not_ended : (r : Result Unit Halt) (h : Halt) → r ≡ Ok tt → r ≡ Err h → ⊥
not_ended r h goes ends = let two : Ok tt ≡ Err h = sym goes ∙ ends in cc

pub start_over-requires : goal.start_over-requires
start_over-requires g c = can_start c.args.linked.now g.out c.args.s.now c.requires.1.1.0 (none_left c.args.s.now.frames.living c.depth.result c.depth.ensures c.if-depth-eq0.true)

pub run_held-requires : goal.run_held-requires
run_held-requires g c =
    let live = some_left c.args.s.now.frames.living c.depth.result c.depth.ensures c.if-depth-eq0.false in
    (can_step c.args.linked.now g.out c.args.s.now c.requires.1.1.0 live, (equipped c.args.linked.now g.out c.args.s.now c.requires.1.1.0 live, (c.requires.1.1.1.1.0, c.requires.1.1.1.1.1.0)))

pub finish_left-requires : goal.finish_left-requires
finish_left-requires g c =
    let l = c.args.linked.now in
    let s = c.args.s.now in
    let live = some_left s.frames.living c.depth.result c.depth.ensures c.if-depth-eq0.false in
    let known = subst (HasArgumentRoom l) (sym c.run_held.ensures.dispatches.limit) c.requires.1.1.0.known in
    let fair = fair_left l g.out s c.requires.1.1.0 live c.run_held.new.left c.run_held.new.s c.run_held.ensures.dispatches.leaves in
    λ κs among. (among.0, (among.1, (known, (scripts_there l g.out s c.requires.1.1.0, (c.requires.1.1.1.0, (c.run_held.ensures.dispatches.finishes, (fair, c.requires.1.1.1.1.1.1)))))))

pub returns-clause-step : goal.returns-clause-step
returns-clause-step g c =
    let s = c.args.s.now in
    let live = some_left s.frames.living c.depth.result c.depth.ensures c.if-depth-eq0.false in
    steps_left c.args.linked.now g.out s c.requires.1.1.0 live c.run_held.new.left c.run_held.new.s c.run_held.ensures.dispatches.leaves c.finish_left.new.halted c.finish_left.new.s (g.K.Sink.written c.args.sink.now) (g.K.Sink.written c.finish_left.new.sink) c.finish_left.ensures.step

pub returns-clause-value : goal.returns-clause-value
returns-clause-value g c = λ v e.
    let s = c.args.s.now in
    let live = some_left s.frames.living c.depth.result c.depth.ensures c.if-depth-eq0.false in
    returned_left c.args.linked.now g.out s c.requires.1.1.0 live c.run_held.new.left c.run_held.new.s c.run_held.ensures.dispatches.leaves v (c.finish_left.ensures.value v e)

pub returns-clause-leaves : goal.returns-clause-leaves
returns-clause-leaves g c =
    let left = c.finish_left.ensures.leaves in
    record { sized = left.sized; later = left.later; cause = left.cause; limit = left.limit ∙ c.run_held.ensures.dispatches.limit }

pub returns-then-depth-eq0-clause-step : goal.returns-then-depth-eq0-clause-step
returns-then-depth-eq0-clause-step g c = c.start_over.ensures.step (g.K.Sink.written c.args.sink.now)

pub returns-then-depth-eq0-clause-value : goal.returns-then-depth-eq0-clause-value
returns-then-depth-eq0-clause-value g c = λ v e. absurd (c.start_over.ensures.none v e)

pub returns-then-depth-eq0-clause-leaves : goal.returns-then-depth-eq0-clause-leaves
returns-then-depth-eq0-clause-leaves g c = record {
  sized = λ h. c.start_over.ensures.sized;
  later = omega arith;
  cause = λ e. absurd (c.start_over.ensures.ends e);
  limit = c.start_over.ensures.limit;
}

-- where the instruction goes on, as most do
pub returns-then-run_held-clause-step : goal.returns-then-run_held-clause-step
returns-then-run_held-clause-step g c =
    let l = c.args.linked.now in
    let s = c.args.s.now in
    let live = some_left s.frames.living c.depth.result c.depth.ensures c.if-depth-eq0.false in
    let wrote = g.K.Sink.written c.args.sink.now in
    subst (λ (r : Result Unit Halt). StepsAs l g.out s r c.run_held.new.s wrote wrote) (sym c.requires.1.1.1.1.1.1) (goes_step l g.out s c.requires.1.1.0 live c.run_held.new.left c.run_held.new.s c.run_held.ensures.dispatches.leaves (c.run_held.ensures.dispatches.goes c.if-run_held.true) wrote)

pub returns-then-run_held-clause-value : goal.returns-then-run_held-clause-value
returns-then-run_held-clause-value g c = λ v e. absurd (not_ended c.args.halted.now (Returns v) c.requires.1.1.1.1.1.1 e)

pub returns-then-run_held-clause-leaves : goal.returns-then-run_held-clause-leaves
returns-then-run_held-clause-leaves g c =
    let s = c.args.s.now in
    let live = some_left s.frames.living c.depth.result c.depth.ensures c.if-depth-eq0.false in
    let did = c.run_held.ensures.dispatches in
    record {
      sized = λ h. goes_sized c.args.linked.now g.out s c.requires.1.1.0 live c.run_held.new.left c.run_held.new.s did.leaves (did.goes c.if-run_held.true);
      later = omega arith;
      cause = λ e. absurd (not_ended c.args.halted.now Fails c.requires.1.1.1.1.1.1 e);
      limit = did.limit;
    }

pub returns-then-run_held-clause-none : goal.returns-then-run_held-clause-none
returns-then-run_held-clause-none g c = c.run_held.ensures.dispatches.goes c.if-run_held.true
