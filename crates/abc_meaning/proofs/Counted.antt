-- The steps of a run, and the log of one that isn't begun.
use Rattle.std.proofs.Common.{ℕ, zero, suc, ◌≤◌, ap, arith}
use Rattle.std.specs.Prelude.{None, Some}
use Rattle.std.specs.declared.option.Option.{Option}
use Rattle.abc_heap_store.specs.declared.records.Limit.{Limit}
use Rattle.abc_meaning.specs.Meaning.{first_state, first_world, too_small}
use Rattle.abc_meaning.specs.Step.{step}
use Rattle.abc_meaning.specs.Throwing.{Ends, Machine, Stepped, Steps}
use Rattle.abc_meaning.specs.Setting.{Setting}
use Rattle.abc_meaning.specs.LogLaws.{ARunHasFewSteps, TooSmallIsOneLine}
use Rattle.abc_meaning.specs.Logs.{log, log_if, logs_for, steps, steps_for, steps_if, then_counts}

pub one_line : TooSmallIsOneLine
unfolding log steps
one_line p m fuel limit e =
    (ap (λ (o : Option Limit). log_if o (logs_for p fuel (first_state p m))) e, ap (λ (o : Option Limit). steps_if o (steps_for p fuel (first_state p m))) e)

counted : (n : ℕ) (r : Stepped) (go : Machine → ℕ) → ((q : Machine) → go q ≤ n) → then_counts r go ≤ suc n
counted n (Steps q) go h = let few = h q in omega (arith, few)
counted n (Ends w e) go h = omega arith

few_for : (p : Setting) (fuel : ℕ) (q : Machine) → steps_for p fuel q ≤ fuel
few_for p zero q = omega arith
few_for p (suc fuel) q = counted fuel (step p q) (steps_for p fuel) (few_for p fuel)

few_if : (o : Option Limit) (n fuel : ℕ) → n ≤ fuel → steps_if o n ≤ fuel
few_if (Some limit) n fuel h = omega arith
few_if None n fuel h = h

pub few_steps : ARunHasFewSteps
unfolding steps
few_steps p m fuel = few_if (too_small (first_world p m).heap) (steps_for p fuel (first_state p m)) fuel (few_for p fuel (first_state p m))
