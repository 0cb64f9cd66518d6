-- What `log` and `replay` are answered with (profile: docs/PROGRAM.md, "Logs").
use Rattle.std.specs.Prelude.{◌≡◌, ℕ, List, ◌∷◌, ◌++◌, [], codes, decimal, length}
use Rattle.abc_base.specs.declared.formula.Formula.{Formula}
use Rattle.abc_base.specs.declared.status.Status.{Status}
use Rattle.abc_base.specs.declared.status.Status.TheVariants as status
use Rattle.abc_heap_store.specs.declared.records.Limits.{Limits}
use Rattle.abc_log.specs.Lines.{head_line, limit_end, limits_line}
use Rattle.abc_meaning.specs.Logs.{log}
use Rattle.abc_meaning.specs.Meaning.{Meaning, Ran, TooSmall, meaning}
use Rattle.abc_meaning.specs.Setting.{Setting}
use Rattle.abc_link_names.specs.Linked.{LinkedFile}
use Rattle.abc_replay.specs.Names.{replay_reason_name}
use Rattle.abc_replay.specs.Replays.{IsLogRefused, IsReplayed}
use Rattle.abc_replay.specs.declared.error.ReplayError.{ReplayError}
use Rattle.abc_replay.specs.declared.error.ReplayError.TheVariants as errors
use Rattle.abc_file_types.specs.declared.tables.Abc.{Abc}
use Rattle.abc_file_types.specs.Files.{file_bytes}
use Rattle.abc_verify.specs.Verified.{IsVerifiedOf}
use Rattle.abc_cli_answers.specs.declared.command.RunOptions.{RunOptions}
use Rattle.abc_cli_answers.specs.Answers.{Answer, Unverified, bytes_answer, line_answer}
use Rattle.abc_cli_answers.specs.Lines.{item_text, limit_text, no_memory_text, place_text, read_fault_text, untyped_text}
use Rattle.abc_cli.specs.Meant.{IsEnded, bytes_and_line, limits_of}
use Rattle.abc_cli_answers.specs.End.{Channel, GivesAll, GivesLine, Got}
use Rattle.abc_cli.specs.Endings.{open_answer}
use Rattle.abc_objects.specs.declared.error.OpenError.{OpenError}
use Rattle.abc_objects.specs.declared.error.OpenError.TheVariants as opening

-- ---- `log`

-- what stands before the steps: the length of the file, its bytes, and a line of the fuel and the limits
abbrev pub front : (file : List ℕ) → (fuel : ℕ) → Limits → List ℕ
front file fuel m = head_line (length file) ++ file ++ limits_line fuel m

-- the log of a run, as `replay` reads it
abbrev pub whole_log : Setting → Limits → (fuel : ℕ) → List ℕ
whole_log p m fuel = front (file_bytes p.linked.file) fuel m ++ log p m fuel

-- what is answered of a meaning where something else is written than its output
abbrev pub IsLogged : Abc → (starts : List (List ℕ)) → (wrote : List ℕ) → Meaning → Answer → Type 0
IsLogged v starts wrote (TooSmall limit) a = a ≡ bytes_and_line status.Limit wrote (limit_text limit)
IsLogged v starts wrote (Ran output end) a = IsEnded v starts wrote end a

-- `log` of a file that was read so, with the formulas of a host: why it isn't verified, or else the status and the line of its run,
-- and in place of its output the log of that
pub data Log (o : RunOptions) (formulas : List Formula) (v : Abc) (starts : List (List ℕ)) (a : Answer) : Type 0 where
  unverified : Unverified v starts a → Log o formulas v starts a
  logged : (l : LinkedFile) → IsVerifiedOf v l → IsLogged v starts (whole_log (record { linked = l; formulas = formulas }) (limits_of o) o.fuel) (meaning (record { linked = l; formulas = formulas }) (limits_of o) o.fuel) a → Log o formulas v starts a

-- what `log` gives where no machine is opened, behind what stands before the steps: a limit is too small, so the log is its end line alone; or memory is wanted
abbrev pub GivesUnopened : Channel → Channel → (before : List ℕ) → OpenError → Status → Type 0
GivesUnopened out err before (opening.TooSmall limit) s = GivesAll out err (before ++ limit_end limit) (open_answer (opening.TooSmall limit)) s
GivesUnopened out err before opening.NoMemory s = Got out [] × GivesLine err (open_answer opening.NoMemory) s

-- ---- `replay`

-- the line of a log that is the log of its file: how many steps it has
unfoldable pub replayed_line : ℕ → List ℕ
replayed_line n = codes "replayed " ++ decimal n ++ 10 ∷ []

-- why an input is no log
abbrev pub unreplayed_text : ReplayError → List ℕ
unreplayed_text (errors.Refused place reason) = place_text (codes "byte") place (replay_reason_name reason)
unreplayed_text (errors.Link rule i) = item_text i rule
unreplayed_text (errors.Verify m offset rule) = untyped_text m offset rule
unreplayed_text errors.ReadFault = read_fault_text
unreplayed_text errors.NoMemory = no_memory_text

-- what is answered of it
abbrev pub unreplayed_answer : ReplayError → Answer
unreplayed_answer errors.ReadFault = line_answer status.ReadFault read_fault_text
unreplayed_answer errors.NoMemory = line_answer status.NoMemory no_memory_text
unreplayed_answer e = line_answer status.Refused (unreplayed_text e)

-- `replay` of an input, with the formulas of a host: how many steps its log has, or why it is no log
pub data Replay (formulas : List Formula) (input : List ℕ) (a : Answer) : Type 0 where
  replayed : (n : ℕ) → IsReplayed formulas input n → a ≡ bytes_answer (replayed_line n) → Replay formulas input a
  refused : (e : ReplayError) → IsLogRefused formulas input e → a ≡ line_answer status.Refused (unreplayed_text e) → Replay formulas input a
