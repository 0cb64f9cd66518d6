-- What the code of an instruction may rely on: the newest frame is there, with the sizes of its routine, and the meaning of the
-- instruction isn't stuck.
use Rattle.std.specs.Prelude.{◌≡◌, ◌+◌, ◌<◌, ◌^◌, length}
use Rattle.abc_link_names.specs.Linked.{LinkedFile}
use Rattle.abc_frames.specs.Frame.{newest, newest_size}
use Rattle.abc_run_state.specs.Outer.{Outer, setting_in, world}
use Rattle.abc_run_state.specs.Standing.{IsSet}
use Rattle.abc_run_state.specs.Stops.{IsOpen}
use Rattle.abc_run_state.specs.Turns.{size_for}
use Rattle.abc_run_state.specs.declared.state.State.{State}
use Rattle.abc_file_types.specs.declared.code.Instr.{Instr}
use Rattle.abc_run_values.specs.Here.{act_here}
use Rattle.abc_run_values.specs.Spelled.{IsSpelled}

-- the code of instruction i can run in this state
pub record CanRun (l : LinkedFile) (out : Outer) (s : State) (i : Instr) : Type 0 where
  pub set : IsSet l s
  pub live : 0 < length s.frames.living
  pub place : (newest s.frames).place + 1 < 2 ^ 32
  pub size : newest_size s.frames ≡ size_for (setting_in l out) (newest s.frames)
  pub spelled : IsSpelled i
  pub free : IsOpen (act_here (setting_in l out) (newest s.frames) i (world s out))
