-- What is proved of the premise of a step: every run of a verified file meets it, at its beginning and after each step.
use Rattle.std.specs.Prelude.{◌≡◌, ℕ, ◌<◌, ◌^◌, List, []}
use Rattle.std.specs.declared.option.Option.{Option}
use Rattle.abc_base.specs.declared.formula.Formula.{Formula}
use Rattle.abc_run_finish.specs.Ending.{IsSized}
use Rattle.abc_run_finish.specs.Steps.{GoesOnAs, IsReached}
use Rattle.abc_heap_store.specs.declared.records.Limits.{Limits}
use Rattle.abc_meaning.specs.ThrowLaws.{IsVerifiedSetting}
use Rattle.abc_run_finish.specs.Begun.{IsBegun}
use Rattle.abc_meaning.specs.Openings.{setting}
use Rattle.abc_run_finish.specs.Outward.{adding}
use Rattle.abc_link_names.specs.Linked.{LinkedFile}
use Rattle.abc_run_state.specs.Outer.{Outer, setting_in as setting_of}
use Rattle.abc_run_state.specs.declared.state.State.{State}

-- the state that a run of a verified file begins with; nothing was written
abbrev pub RunsBeginReached : Type 0
RunsBeginReached = (l : LinkedFile) (formulas : List Formula) (limits : Limits) (s : State) → IsVerifiedSetting (setting l formulas) → limits.cells < 2 ^ 32 → IsBegun (setting l formulas) limits s → IsReached l (record { formulas = formulas; wrote = [] }) s

-- a state that a step leaves, which keeps what the code says of the frames and of the room for first locals
abbrev pub StepsStayReached : Type 0
StepsStayReached = (l : LinkedFile) (out : Outer) (old new : State) (before now : Option (List ℕ)) → IsReached l out old → (went : GoesOnAs l out old new before now) → IsSized (setting_of l out) new.arena.limits new.frames → new.given.limit ≡ old.given.limit → IsReached l (adding went.bytes out) new

-- a verified file, the formulas of a host, and a state that a run of it begins with
pub record BeginsReached (l : LinkedFile) (formulas : List Formula) (limits : Limits) (s : State) : Type 0 where
  pub verified : IsVerifiedSetting (setting l formulas)
  pub begun : IsBegun (setting l formulas) limits s
  pub reached : IsReached l (record { formulas = formulas; wrote = [] }) s

-- there are a verified file and a state with which a run of it begins
abbrev pub SomeRunsBegin : Type 0
SomeRunsBegin = (l : LinkedFile) × (formulas : List Formula) × (limits : Limits) × (s : State) × BeginsReached l formulas limits s
