-- What an instruction does in the newest frame, by the table of acts.
use Rattle.std.specs.Prelude.{◌≡◌, None, Some}
use Rattle.std.specs.declared.option.Option.{Option}
use Rattle.std.specs.declared.result.Result.{Result}
use Rattle.abc_link_names.specs.Linked.{LinkedFile}
use Rattle.abc_verify_typing.specs.Instructions.{opcode}
use Rattle.abc_verify_typing.specs.Rows.{row_at}
use Rattle.abc_frames.specs.Frame.{Frame, newest}
use Rattle.abc_file_types.specs.declared.code.Instr.{Instr}
use Rattle.abc_verify_typing.specs.Routines.{Routine}
use Rattle.abc_meaning.specs.Setting.{Setting, routine_of}
use Rattle.abc_meaning.specs.World.{Run, sticks}
use Rattle.abc_meaning.specs.At.{Act}
use Rattle.abc_meaning.specs.Step.{does_row}
use Rattle.abc_run_state.specs.Outer.{Outer, setting_in}
use Rattle.abc_run_state.specs.Doing.{Does}
use Rattle.abc_run_state.specs.Turns.{Leaves}
use Rattle.abc_run_state.specs.declared.state.Left.{Left}
use Rattle.abc_run_state.specs.declared.state.State.{State}
use Rattle.abc_run_state.specs.declared.state.Stop.{Stop}

abbrev pub act_in : Setting → Frame → Instr → Option Routine → Run Act
act_in p f i None = sticks
act_in p f i (Some r) = does_row p r f i (row_at (opcode i))

-- the act of an instruction in a frame, by the table of acts
abbrev pub act_here : Setting → Frame → Instr → Run Act
act_here p f i = act_in p f i (routine_of p f.method)

-- ---- what the code of an instruction promises: it does what the act says, and first locals keep their limit

-- it goes on, or stops
abbrev pub RunsHere : LinkedFile → Outer → Instr → State → Result Unit Stop → State → Type 0
RunsHere l out i old result new = Does l out (λ p f. act_here p f i) old result new

-- it goes on, leaves something to be done, or stops
pub record LeavesHere (l : LinkedFile) (out : Outer) (i : Instr) (old : State) (result : Result Left Stop) (new : State) : Type 0 where
  pub leaves : Leaves l out (act_here (setting_in l out) (newest old.frames) i) old result new
  pub limit : new.given.limit ≡ old.given.limit
