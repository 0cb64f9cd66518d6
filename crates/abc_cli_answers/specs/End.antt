-- How a run ends: what the sinks got, and when a status but the defined one is answered (profile: docs/PROGRAM.md, "What each fault leaves").
use Rattle.std.specs.Prelude.{◌≡◌, ◌≢◌, ◌⊎◌, ℕ, List, [], IsSome}
use Rattle.std.specs.Io.KnownBytes.{append_known}
use Rattle.std.specs.declared.option.Option.{Option}
use Rattle.abc_base.specs.Faults.{Rose}
use Rattle.abc_base.specs.Sinks.{GrowsByFront}
use Rattle.abc_base.specs.declared.status.Status.{Status}
use Rattle.abc_base.specs.declared.status.Status.TheVariants as status
use Rattle.abc_file.specs.Reading.{IsUsedUp}
use Rattle.abc_cli_answers.specs.Lines.{told_line, read_fault_text, write_fault_text, no_memory_text}
use Rattle.abc_cli_answers.specs.Answers.{Answer, line_answer}

-- A stream before and after: the bytes that a source has left, or that were written to a sink, where it tells them, and its count of faults.
pub record Channel : Type 0 where
  pub before : Option (List ℕ)
  pub after : Option (List ℕ)
  pub faults_before : ℕ
  pub faults_after : ℕ

abbrev pub channel : Option (List ℕ) → Option (List ℕ) → ℕ → ℕ → Channel
channel before after faults_before faults_after = record { before = before; after = after; faults_before = faults_before; faults_after = faults_after }

-- what such a value went through, by what it tells of its bytes and by its count of faults
abbrev pub stream : {T : Type 0} → (T → Option (List ℕ)) → (T → ℕ) → T → T → Channel
stream bytes faults old new = channel (bytes old) (bytes new) (faults old) (faults new)

-- it got these bytes
abbrev pub Got : Channel → List ℕ → Type 0
Got c bytes = IsSome c.before → c.after ≡ append_known c.before bytes

-- it got the front of these bytes
abbrev pub GotFront : Channel → List ℕ → Type 0
GotFront c bytes = IsSome c.before → GrowsByFront c.before c.after bytes

-- its count of faults rose
abbrev pub HasFailed : Channel → Type 0
HasFailed c = Rose c.faults_before c.faults_after

-- the line was written, and the status is its own; or writing it failed
abbrev pub GivesLine : Channel → Answer → Status → Type 0
GivesLine err a s = (Got err a.err × (s ≡ a.status)) ⊎ (HasFailed err × GotFront err a.err × (s ≡ status.WriteFault))

-- the bytes were written and nothing else; or writing them failed, and the line says so
abbrev pub GivesBytes : Channel → Channel → List ℕ → Status → Type 0
GivesBytes out err bytes s = (Got out bytes × Got err [] × (s ≡ status.Done)) ⊎ (HasFailed out × GotFront out bytes × GivesLine err (line_answer status.WriteFault write_fault_text) s)

-- the bytes were written, and then the answer's line, or that failed; or writing the bytes failed, and the line says so
abbrev pub GivesAll : Channel → Channel → List ℕ → Answer → Status → Type 0
GivesAll out err bytes a s = (Got out bytes × GivesLine err a s) ⊎ (HasFailed out × GotFront out bytes × GivesLine err (line_answer status.WriteFault write_fault_text) s)

-- The run ends with an answer of the outcome, written whole; or with a fault of the source, of a sink or of memory, each with its cause and with what stands.
pub data IsEnd (Outcome : Answer → Type 0) (SourceFailed : Type 0) (out err : Channel) : Status → Type 0 where
  defined : (a : Answer) → Outcome a → Got out a.out → Got err a.err → IsEnd Outcome SourceFailed out err a.status
  read_fault : SourceFailed → Got out [] → Got err (told_line read_fault_text) → IsEnd Outcome SourceFailed out err status.ReadFault
  no_memory : Got out [] → Got err (told_line no_memory_text) → IsEnd Outcome SourceFailed out err status.NoMemory
  -- writing to `out` failed, and the line that says so was written
  out_failed : (a : Answer) → Outcome a → HasFailed out → GotFront out a.out → Got err (told_line write_fault_text) → IsEnd Outcome SourceFailed out err status.WriteFault
  -- writing to `out` failed, and then writing the line that says so
  both_failed : (a : Answer) → Outcome a → HasFailed out → HasFailed err → GotFront out a.out → GotFront err (told_line write_fault_text) → IsEnd Outcome SourceFailed out err status.WriteFault
  -- writing an answer's line failed
  line_failed : (a : Answer) → Outcome a → HasFailed err → Got out a.out → GotFront err a.err → IsEnd Outcome SourceFailed out err status.WriteFault
  -- writing the line of a failed read failed
  read_line_failed : SourceFailed → HasFailed err → Got out [] → GotFront err (told_line read_fault_text) → IsEnd Outcome SourceFailed out err status.WriteFault
  -- writing the line of missing memory failed
  memory_line_failed : HasFailed err → Got out [] → GotFront err (told_line no_memory_text) → IsEnd Outcome SourceFailed out err status.WriteFault

-- the run of a source and two sinks ends by an outcome of the source's bytes
abbrev pub Ends : (Option (List ℕ) → Answer → Type 0) → Channel → Channel → Channel → Status → Type 0
Ends Outcome source out err = IsEnd (Outcome source.before) (HasFailed source) out err

-- the statuses of a run, which begins where the input was read to its end, and that of success
abbrev pub IsRunStatus : Status → Type 0
IsRunStatus status.Done = Unit {0}
IsRunStatus status.Uncaught = Unit {0}
IsRunStatus status.Profile = Unit {0}
IsRunStatus status.Fuel = Unit {0}
IsRunStatus status.Limit = Unit {0}
IsRunStatus other = ⊥

-- with these, nothing of the input is left
abbrev pub UsesUp : Channel → Status → Type 0
UsesUp source s = IsRunStatus s → IsUsedUp source.before source.after

-- ---- runs, whose output is written as it comes

-- A run ends with an answer of the outcome that is done, its bytes written and no line; or with another answer or a fault, as any
-- command; or writing the bytes of an answer failed.
pub data RunsTo (Outcome : Answer → Type 0) (SourceFailed : Type 0) (out err : Channel) (s : Status) : Type 0 where
  done : (a : Answer) → Outcome a → a.status ≡ status.Done → Got out a.out → Got err [] → s ≡ status.Done → RunsTo Outcome SourceFailed out err s
  other : IsEnd (λ a. Outcome a × (a.status ≢ status.Done)) SourceFailed out err s → RunsTo Outcome SourceFailed out err s
  cut : (a : Answer) → Outcome a → HasFailed out → GotFront out a.out → GivesLine err (line_answer status.WriteFault write_fault_text) s → RunsTo Outcome SourceFailed out err s
