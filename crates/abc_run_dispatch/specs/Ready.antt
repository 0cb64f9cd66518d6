-- What the code of the newest frame's instruction may rely on.
use Rattle.std.specs.Prelude.{◌≡◌, length, slice_get, Some}
use Rattle.abc_run_calls.specs.Arguments.{HasArgumentRoom}
use Rattle.abc_run_values.specs.Ready.{CanRun}
use Rattle.abc_link_names.specs.Linked.{LinkedFile}
use Rattle.abc_frames.specs.Frame.{newest}
use Rattle.abc_run_state.specs.Outer.{Outer, setting_in}
use Rattle.abc_meaning.specs.Setting.{routine_of}
use Rattle.abc_run_state.specs.declared.state.State.{State}
use Rattle.abc_file_types.specs.declared.code.Instr.{Instr}
use Rattle.abc_verify_typing.specs.Routines.{Routine}

-- what calls and searches in scopes need: room for first locals, and a flag for each script
pub record IsEquipped (l : LinkedFile) (s : State) : Type 0 where
  pub known : HasArgumentRoom l s.given.limit
  pub started : length s.started ≡ length l.file.scripts

-- an instruction stands at the place of the newest frame, and can be run
pub record CanStep (l : LinkedFile) (out : Outer) (s : State) : Type 0 where
  pub routine : Routine
  pub body : routine_of (setting_in l out) (newest s.frames).method ≡ Some routine
  pub instr : Instr
  pub at : slice_get routine.code (newest s.frames).place ≡ Some instr
  pub run : CanRun l out s instr
