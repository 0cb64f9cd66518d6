-- What is written of a log.
use Rattle.std.proofs.Common.{◌≡◌, ◌≢◌, ℕ, List, Ok, Err, refl, subst, sym}
use Rattle.std.specs.declared.option.Option.{Option}
use Rattle.std.specs.declared.result.Result.{Result}
use Rattle.abc_base.specs.Faults.{HasCause}
use Rattle.abc_base.specs.Sinks.{WritesAll}
use Rattle.abc_base.specs.declared.formula.Formula.{Formula}
use Rattle.abc_heap_store.specs.declared.records.Limits.{Limits}
use Rattle.abc_meaning.specs.Logs.{log, steps}
use Rattle.abc_log.specs.Checks.{IsWritten}
use Rattle.abc_machine.specs.Ended.{HasRun, IsEndOf}
use Rattle.abc_machine.specs.Logged.{LogsRun}
use Rattle.abc_machine.specs.Machines.{IsOpened, Opened}
use Rattle.abc_meaning.specs.Openings.{setting}
use Rattle.abc_machine.specs.declared.ends.End.{End}
use Rattle.abc_machine.specs.declared.ends.End.TheVariants as ends
use Rattle.abc_meaning.specs.Meaning.{Meaning}
use Rattle.abc_link_names.specs.Linked.{LinkedFile}

-- a run writes all the lines, or a front of them where the sink failed
pub run_written : (lines : List ℕ) (m : Meaning) (counted n : ℕ) (old new : Option (List ℕ)) (before now : ℕ) (end : End) → LogsRun lines m old new end → HasRun before now end → (end ≢ ends.WriteFault → n ≡ counted) → IsWritten lines counted n old new before now
run_written lines m counted n old new before now end (LogsRun.logged log wrote e x is got) cause count = IsWritten.whole (count (λ fault. subst (IsEndOf e) fault is)) got
run_written lines m counted n old new before now end (LogsRun.failed log wrote e front) cause count = IsWritten.front (cause.failed refl) front

-- so does a single line
pub line_written : {T E : Type 0} (line : List ℕ) (n : ℕ) (old new : Option (List ℕ)) (before now : ℕ) (r : Result T E) → n ≡ 0 → WritesAll old new r line → HasCause before now r → IsWritten line 0 n old new before now
line_written line n old new before now (Ok x) none writes cause = IsWritten.whole none writes
line_written line n old new before now (Err e) none writes cause = IsWritten.front cause.failed writes

-- a machine that was opened logs the run of its file
pub opened_written : (l : LinkedFile) (formulas : List Formula) (limits : Limits) (fuel : ℕ) (m : Opened) (n : ℕ) (old new : Option (List ℕ)) (before now : ℕ) → IsOpened l formulas limits m
    → IsWritten (log (setting m.linked formulas) m.limits fuel) (steps (setting m.linked formulas) m.limits fuel) n old new before now → IsWritten (log (setting l formulas) limits fuel) (steps (setting l formulas) limits fuel) n old new before now
opened_written l formulas limits fuel m n old new before now is written = subst (λ (x : Opened). IsWritten (log (setting x.linked formulas) x.limits fuel) (steps (setting x.linked formulas) x.limits fuel) n old new before now) is.is written

-- one that isn't opened has one line
pub small_written : (lines line : List ℕ) (counted n : ℕ) (old new : Option (List ℕ)) (before now : ℕ) → (lines ≡ line) × (counted ≡ 0) → IsWritten line 0 n old new before now → IsWritten lines counted n old new before now
small_written lines line counted n old new before now one written =
    subst (λ (l : List ℕ). IsWritten l counted n old new before now) (sym one.0) (subst (λ (k : ℕ). IsWritten line k n old new before now) (sym one.1) written)
