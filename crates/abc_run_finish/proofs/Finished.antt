-- From what is left to be done to the step of the meaning.
use Rattle.std.proofs.Common.{◌≡◌, ◌≢◌, ℕ, ◌<◌, List, [], length, refl, sym, ap, ◌∙◌, append-nil}
use Rattle.std.proofs.lemmas.Option.{slice_get_within}
use Rattle.std.specs.Prelude.{None, Some, Ok, Err, slice_get}
use Rattle.std.specs.Io.KnownBytes.{append_known}
use Rattle.std.specs.declared.option.Option.{Option}
use Rattle.std.specs.declared.result.Result.{Result}
use Rattle.abc_base.specs.declared.formula.Formula.{Formula}
use Rattle.abc_heap_values.specs.declared.values.Value.{Value}
use Rattle.abc_run_finish.specs.Ending.{stepped_by}
use Rattle.abc_run_finish.specs.declared.ended.Ended.{Ended}
use Rattle.abc_meaning.specs.Throwing.{Stepped, goes_on}
use Rattle.abc_run_finish.specs.Outward.{FailsWriting, WritesLine}
use Rattle.abc_link_names.specs.Linked.{LinkedFile}
use Rattle.abc_frames.specs.Frame.{Frames, arguments, newest}
use Rattle.abc_run_state.specs.Outer.{Outer, setting_in, world}
use Rattle.abc_run_state.specs.Settling.{settles_how}
use Rattle.abc_run_state.specs.Turns.{turn_of_formula, turn_of_trace, turn_of}
use Rattle.abc_meaning.specs.Calling.{calls_formula}
use Rattle.abc_meaning.specs.Setting.{Setting}
use Rattle.abc_meaning.specs.World.{World, and_then, some}
use Rattle.abc_run_state.specs.declared.state.How.{How}
use Rattle.abc_run_state.specs.declared.state.State.{State}
use Rattle.abc_run_finish.specs.Fairly.{IsFairTurn, IsHeldTurn}
use Rattle.abc_run_finish.specs.Steps.{FailsIn, GoesOnIn, StepsIn, halted_as, step_of_turn}
use Rattle.abc_run_finish.specs.declared.halts.Halt.TheVariants as halts

-- ---- nothing was written

nothing_more : (known : Option (List ℕ)) → append_known known [] ≡ known
nothing_more None = refl
nothing_more (Some bytes) = ap Some (append-nil bytes)

pub ended_in : (r : Stepped) (out : Outer) (result : Result Unit Ended) (new : State) (before now : Option (List ℕ)) → r ≡ stepped_by result (world new out) new.frames → now ≡ before → StepsIn r out (halted_as result) new before now
ended_in r out (Ok u) new before now e same = record {
  bytes = [];
  goes = e ∙ ap (λ (bytes : List ℕ). goes_on (record { heap = new.arena; started = new.started; wrote = bytes }) new.frames.living) (sym (append-nil out.wrote));
  sink = λ some. same ∙ sym (nothing_more before);
}
ended_in r out (Err end) new before now e same = record { ends = e; sink = same }

pub no_failure : (r : Result Unit Ended) → halted_as r ≢ Err halts.Fails
no_failure (Ok u) e = cc
no_failure (Err end) e = cc

pub no_return : (r : Result Unit Ended) (v : Value) → halted_as r ≢ Err (halts.Returns v)
no_return (Ok u) v e = cc
no_return (Err end) v e = cc

-- ---- a line was written, or the front of it

pub wrote_in : (l : LinkedFile) (out : Outer) (count : ℕ) (how : How) (old new : State) (before now : Option (List ℕ)) → WritesLine l out count how old new before now → GoesOnIn (step_of_turn (setting_in l out) (turn_of_trace (setting_in l out) count how (world old out) old.frames)) out new before now
wrote_in l out count how old new before now w = record { bytes = w.bytes; goes = ap (step_of_turn (setting_in l out)) w.goes; sink = w.sink }

pub failed_in : (l : LinkedFile) (out : Outer) (count : ℕ) (how : How) (old new : State) (before now : Option (List ℕ)) → FailsWriting l out count how old new before now → FailsIn (step_of_turn (setting_in l out) (turn_of_trace (setting_in l out) count how (world old out) old.frames)) out new before now
failed_in l out count how old new before now f = record {
  bytes = f.bytes;
  next = record { world = f.world_then; frames = f.frames_then.living };
  goes = ap (step_of_turn (setting_in l out)) f.goes;
  wrote = f.wrote;
  heap = f.heap;
  sink = f.sink;
}

-- ---- a formula that is asked is one of the host

pub formula_there : (p : Setting) (n count : ℕ) (how : How) (w : World) (q : Frames) → IsFairTurn p (turn_of_formula p n count how w q) → n < length p.formulas
formula_there p n count how w q fair = go (slice_get p.formulas n) refl fair.held
  where
    go : (o : Option Formula) → slice_get p.formulas n ≡ o → IsHeldTurn p (turn_of p q (and_then (and_then (some o w) (λ f. calls_formula p f (arguments count (newest q)))) (settles_how how (newest q)))) → n < length p.formulas
    go None e h = absurd h.fair
    go (Some f) e h = slice_get_within p.formulas n f e
