-- What the code of an instruction asks and promises that answers whether the frame goes on: else `left` holds what is left to be done,
-- or why it stops.
use Rattle.std.specs.Prelude.{◌≡◌, Bool, Ok}
use Rattle.std.specs.declared.result.Result.{Result}
use Rattle.abc_file_types.specs.declared.code.Instr.{Instr}
use Rattle.abc_link_names.specs.Linked.{LinkedFile}
use Rattle.abc_meaning.specs.Setting.{routine_of}
use Rattle.abc_meaning.specs.Step.{runs}
use Rattle.abc_run_dispatch.specs.Ready.{IsEquipped}
use Rattle.abc_run_calls.specs.Doing.{Dispatches}
use Rattle.abc_run_state.specs.Doing.{DoesIf}
use Rattle.abc_run_state.specs.Outer.{Outer}
use Rattle.abc_run_state.specs.declared.state.Left.{Left}
use Rattle.abc_run_state.specs.declared.state.Left.TheVariants as lefts
use Rattle.abc_run_state.specs.declared.state.State.{State}
use Rattle.abc_run_state.specs.declared.state.Stop.{Stop}
use Rattle.abc_run_values.specs.Here.{act_here}
use Rattle.abc_run_values.specs.Ready.{CanRun}

-- the instruction can be run, the state has what calls, functions and searches need, and nothing was left before
pub record CanDispatch (l : LinkedFile) (out : Outer) (i : Instr) (s : State) (left : Result Left Stop) : Type 0 where
  pub run : CanRun l out s i
  pub equipped : IsEquipped l s
  pub none : left ≡ Ok lefts.Goes

-- it does what the act of the instruction says
abbrev pub DispatchesHere : LinkedFile → Outer → Instr → State → Bool → Result Left Stop → State → Type 0
DispatchesHere l out i old goes_on left new = Dispatches l out (λ p f. act_here p f i) old goes_on left new

-- or what the meaning runs in the newest frame
abbrev pub DispatchesNewest : LinkedFile → Outer → State → Bool → Result Left Stop → State → Type 0
DispatchesNewest l out old goes_on left new = Dispatches l out (λ p f. runs p f (routine_of p f.method)) old goes_on left new

-- the act of an instruction is done, and the frame goes on; or nothing is done
abbrev pub IsDoneHereIf : Bool → LinkedFile → Outer → Instr → State → State → Type 0
IsDoneHereIf done l out i old new = DoesIf done l out (λ p f. act_here p f i) old new
