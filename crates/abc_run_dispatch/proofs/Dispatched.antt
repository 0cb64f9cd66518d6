-- What the code of an instruction promises, from what the function promises that it calls.
use Rattle.std.proofs.Common.{◌≡◌, ℕ, Bool, true, sym, subst}
use Rattle.std.specs.Prelude.{Ok}
use Rattle.std.specs.declared.result.Result.{Result}
use Rattle.abc_file_types.specs.declared.code.Instr.{Instr}
use Rattle.abc_frames.specs.Frame.{newest}
use Rattle.abc_link_names.specs.Linked.{LinkedFile}
use Rattle.abc_run_calls.proofs.Finishing.{goes_finishes, told_finishes}
use Rattle.abc_run_calls.specs.Calls.{CanFinish}
use Rattle.abc_run_dispatch.specs.Dispatching.{CanDispatch, DispatchesHere, IsDoneHereIf}
use Rattle.abc_run_state.proofs.Told.{runs_leaves, told_leaves}
use Rattle.abc_run_state.specs.Answers.{goes_as}
use Rattle.abc_run_state.specs.Outer.{Outer, setting_in}
use Rattle.abc_run_state.specs.declared.state.Left.{Left}
use Rattle.abc_run_state.specs.declared.state.Left.TheVariants as lefts
use Rattle.abc_run_state.specs.declared.state.State.{State}
use Rattle.abc_run_state.specs.declared.state.Stop.{Stop}
use Rattle.abc_run_values.specs.Here.{LeavesHere, RunsHere, act_here}

module _ (l : LinkedFile) (out : Outer) (s : State) where
  -- ---- another spelling of the instruction, or of its opcode

  pub can_as : (i j : Instr) (left : Result Left Stop) → i ≡ j → CanDispatch l out i s left → CanDispatch l out j s left
  can_as i j left e can = subst (λ (k : Instr). CanDispatch l out k s left) e can

  pub dispatches_as : (i j : Instr) (goes : Bool) (left : Result Left Stop) (new : State) → i ≡ j → DispatchesHere l out j s goes left new → DispatchesHere l out i s goes left new
  dispatches_as i j goes left new e h = subst (λ (k : Instr). DispatchesHere l out k s goes left new) (sym e) h

  pub here_at : (mk : ℕ → Instr) (op k : ℕ) (result : Result Unit Stop) (new : State) → op ≡ k → RunsHere l out (mk k) s result new → RunsHere l out (mk op) s result new
  here_at mk op k result new e h = subst (λ (o : ℕ). RunsHere l out (mk o) s result new) (sym e) h

  pub leaves_at : (mk : ℕ → Instr) (op k : ℕ) (result : Result Left Stop) (new : State) → op ≡ k → LeavesHere l out (mk k) s result new → LeavesHere l out (mk op) s result new
  leaves_at mk op k result new e h = subst (λ (o : ℕ). LeavesHere l out (mk o) s result new) (sym e) h

  module _ (i : Instr) (new : State) (goes : Bool) (left : Result Left Stop) (on : goes ≡ true → left ≡ Ok lefts.Goes) where
    -- ---- of code that goes on or stops, and of code that may leave something to be done

    pub dispatches_run : (done : Result Unit Stop) → RunsHere l out i s done new → left ≡ goes_as done → DispatchesHere l out i s goes left new
    dispatches_run done h e = record {
      leaves = runs_leaves l out (act_here (setting_in l out) (newest s.frames) i) s new done left e h.runs;
      finishes = goes_finishes l done new left e;
      goes = on;
      limit = h.limit;
    }

    pub dispatches_left : (done : Result Left Stop) → LeavesHere l out i s done new → CanFinish l done new → left ≡ done → DispatchesHere l out i s goes left new
    dispatches_left done h can e = record {
      leaves = told_leaves l out (act_here (setting_in l out) (newest s.frames) i) s new done left e h.leaves;
      finishes = told_finishes l done new left e can;
      goes = on;
      limit = h.limit;
    }

  -- ---- of code that is done

  pub dispatches_done : (i : Instr) (new : State) (goes : Bool) (left : Result Left Stop) → left ≡ Ok lefts.Goes → IsDoneHereIf true l out i s new → DispatchesHere l out i s goes left new
  dispatches_done i new goes left none h = record {
    leaves = runs_leaves l out (act_here (setting_in l out) (newest s.frames) i) s new (Ok tt) left none h.0;
    finishes = goes_finishes l (Ok tt) new left none;
    goes = λ e. none;
    limit = h.1;
  }
