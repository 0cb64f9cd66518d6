-- A run with its log.
use Rattle.std.specs.Prelude.{◌≡◌, ℕ, zero, suc, List, [], ◌++◌, IsSome}
use Rattle.std.specs.Io.KnownBytes.{append_known}
use Rattle.std.specs.declared.option.Option.{Option}
use Rattle.abc_base.specs.Sinks.{GrowsByFront}
use Rattle.abc_machine.specs.Logging.{lines_here}
use Rattle.abc_machine.specs.Ended.{IsEndOf}
use Rattle.abc_machine.specs.declared.ends.End.{End}
use Rattle.abc_machine.specs.declared.ends.End.TheVariants as ends
use Rattle.abc_meaning.specs.Meaning.{Meaning, Ran}
use Rattle.abc_meaning.specs.Throwing as meant
use Rattle.abc_link_names.specs.Linked.{LinkedFile}
use Rattle.abc_run_state.specs.Outer.{Outer}
use Rattle.abc_run_state.specs.declared.state.State.{State}

-- the lines of one step more; where there is no fuel for it there are none
abbrev pub lines_for : LinkedFile → Outer → State → (fuel : ℕ) → List ℕ
lines_for l out s zero = []
lines_for l out s (suc n) = lines_here l out s

-- a log is written but for its last line
pub record HasAllBut (last log : List ℕ) (before now : Option (List ℕ)) : Type 0 where
  pub lines : List ℕ
  pub is : log ≡ lines ++ last
  pub told : IsSome before → now ≡ append_known before lines

-- a run writes its log and answers the meaning's end, or writes a front of the log and answers that writing failed: from what the
-- sink had written to what it has then, where it tells that
pub data LogsRun : (log : List ℕ) → Meaning → (old new : Option (List ℕ)) → End → Type 0 where
  logged : {old new : Option (List ℕ)} (log wrote : List ℕ) (e : meant.End) (end : End) → IsEndOf e end → (IsSome old → new ≡ append_known old log) → LogsRun log (Ran wrote e) old new end
  failed : {old new : Option (List ℕ)} (log wrote : List ℕ) (e : meant.End) → (IsSome old → GrowsByFront old new log) → LogsRun log (Ran wrote e) old new ends.WriteFault
