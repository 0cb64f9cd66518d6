-- What is written and what is asked, beside the meaning.
use Rattle.std.specs.Prelude.{◌≡◌, ℕ, List, ◌++◌, IsSome, Ok, Err}
use Rattle.std.specs.Io.KnownBytes.{append_known}
use Rattle.std.specs.declared.option.Option.{Option}
use Rattle.std.specs.declared.result.Result.{Result}
use Rattle.abc_base.specs.Sinks.{GrowsByFront}
use Rattle.abc_run_finish.specs.declared.outward_halts.Unwritten.{Unwritten}
use Rattle.abc_run_finish.specs.declared.outward_halts.Unwritten.TheVariants as unwritten
use Rattle.abc_link_names.specs.Linked.{LinkedFile}
use Rattle.abc_frames.specs.Frame.{Frames}
use Rattle.abc_run_state.specs.Outer.{Outer, setting_in, world}
use Rattle.abc_run_state.specs.Stops.{why}
use Rattle.abc_run_state.specs.Turns.{GoesOn, Halts, bare_newest, turn_of_trace}
use Rattle.abc_run_state.specs.declared.state.How.{How}
use Rattle.abc_run_state.specs.declared.state.State.{State}
use Rattle.abc_meaning.specs.World.{World}

abbrev pub adding : List ℕ → Outer → Outer
adding bytes out = record out { wrote = out.wrote ++ bytes }

-- the line is written, or writing it failed after a front of it
pub record WritesLine (p : LinkedFile) (out : Outer) (count : ℕ) (how : How) (old new : State) (before now : Option (List ℕ)) : Type 0 where
  pub bytes : List ℕ
  pub goes : turn_of_trace (setting_in p out) count how (world old out) old.frames ≡ GoesOn (world new (adding bytes out)) new.frames
  pub sink : IsSome before → now ≡ append_known before bytes

-- then the heap is that of the line, though no value came for it
pub record FailsWriting (p : LinkedFile) (out : Outer) (count : ℕ) (how : How) (old new : State) (before now : Option (List ℕ)) : Type 0 where
  pub bytes : List ℕ
  pub world_then : World
  pub frames_then : Frames
  pub goes : turn_of_trace (setting_in p out) count how (world old out) old.frames ≡ GoesOn world_then frames_then
  pub wrote : world_then.wrote ≡ out.wrote ++ bytes
  pub heap : world_then.heap ≡ new.arena
  pub sink : IsSome before → GrowsByFront before now bytes

-- the line of trace is written; or the step stops before that, and nothing is; or writing it failed
abbrev pub TracesAs : LinkedFile → Outer → (count : ℕ) → How → (old : State) → Result Unit Unwritten → (new : State) → (before now : Option (List ℕ)) → Type 0
TracesAs l out count how old (Ok u) new before now = WritesLine l out count how old new before now
TracesAs l out count how old (Err (unwritten.Stops e)) new before now = (turn_of_trace (setting_in l out) count how (world old out) old.frames ≡ Halts (world new out) (bare_newest new.frames) (why e)) × (now ≡ before)
TracesAs l out count how old (Err unwritten.Fails) new before now = FailsWriting l out count how old new before now
