-- A step with the lines that it has in the log of a run.
use Rattle.std.specs.Prelude.{◌≡◌, ◌≢◌, ℕ, List, IsSome, Some, None, Ok, Err}
use Rattle.std.specs.Io.KnownBytes.{append_known}
use Rattle.std.specs.declared.option.Option.{Option}
use Rattle.std.specs.declared.result.Result.{Result}
use Rattle.abc_base.specs.Sinks.{GrowsByFront}
use Rattle.abc_base.specs.declared.source.Failed.{Failed}
use Rattle.abc_run_finish.specs.Steps.{StepsIn, left_here, machine, step_here}
use Rattle.abc_run_finish.specs.declared.halts.Halt.{Halt}
use Rattle.abc_run_finish.specs.declared.halts.Halt.TheVariants as halts
use Rattle.abc_meaning.specs.Logs.{lines_of_step, world_left, wrote_since}
use Rattle.abc_log.specs.Lines.{out_line, start_line, step_line}
use Rattle.abc_meaning.specs.Throwing.{Stepped}
use Rattle.abc_link_names.specs.Linked.{LinkedFile}
use Rattle.abc_run_state.specs.Outer.{Outer, setting_in, world}
use Rattle.abc_run_state.specs.declared.state.Left.{Left}
use Rattle.abc_run_state.specs.declared.state.State.{State}
use Rattle.abc_run_state.specs.declared.state.Stop.{Stop}

-- a step of the meaning is done, whose bytes no sink tells, and its lines are written, or a front of them where the log failed
pub record LogsIn (r : Stepped) (lines : List ℕ) (out : Outer) (done : Result Unit Halt) (new : State) (before now : Option (List ℕ)) : Type 0 where
  pub step : done ≢ Err halts.Fails → StepsIn r out done new None None
  pub whole : done ≢ Err halts.Fails → IsSome before → now ≡ append_known before lines
  pub front : done ≡ Err halts.Fails → IsSome before → GrowsByFront before now lines

-- what the instruction left to be done, with its bytes
abbrev pub out_left : LinkedFile → Outer → State → Result Left Stop → List ℕ
out_left l out s left = out_line (wrote_since (world s out) (world_left (left_here l out s left)))

abbrev pub LogsLeft : LinkedFile → Outer → (old : State) → Result Left Stop → Result Unit Halt → (new : State) → (before now : Option (List ℕ)) → Type 0
LogsLeft l out old left done new before now = LogsIn (left_here l out old left) (out_left l out old left) out done new before now

-- the step of a state, with its lines
abbrev pub lines_here : LinkedFile → Outer → State → List ℕ
lines_here l out s = lines_of_step (setting_in l out) (machine s out) (step_here l out s)

-- the step of a state is done, and its lines are written to the log, or a front of them where the log failed
abbrev pub LogsAs : LinkedFile → Outer → (old : State) → Result Unit Halt → (new : State) → (before now : Option (List ℕ)) → Type 0
LogsAs l out old done new before now = LogsIn (step_here l out old) (lines_here l out old) out done new before now

-- the line of an instruction, by its method and its place, or of the script that it starts
abbrev pub line_at : Option ℕ → (method place : ℕ) → List ℕ
line_at (Some script) method place = start_line script
line_at None method place = step_line method place

-- what a step answers whose last line is to be written
abbrev pub if_written : Result Unit Failed → Result Unit Halt → Result Unit Halt
if_written (Ok u) done = done
if_written (Err e) done = Err halts.Fails
