-- What a command line and an input are answered with (profile: docs/PROGRAM.md, "Words" and "Statuses").
use Rattle.std.specs.Prelude.{◌≡◌, ℕ, Bool, true, false, List, [], get_or, length, ◌+◌, ◌<◌, ◌≤◌, ◌^◌}
use Rattle.std.specs.declared.option.Option.{Option}
use Rattle.abc_base.specs.declared.formula.Formula.{Formula}
use Rattle.abc_base.specs.declared.status.Status.TheVariants as status
use Rattle.abc_base.specs.Taking.{TakesAtMost}
use Rattle.abc_text_lines.specs.Answers.{IsAssemblyFault, IsAssemblyOf}
use Rattle.abc_text_lines.specs.Listing.{listing}
use Rattle.abc_link_names.specs.Linked.{LinkedFile}
use Rattle.abc_text_lines.specs.Rows.{Fault, fault}
use Rattle.abc_file_types.specs.declared.tables.Abc.{Abc}
use Rattle.abc_file_types.specs.Files.{file_bytes}
use Rattle.abc_file_types.specs.Part.{limit}
use Rattle.abc_text_lines.specs.declared.reason.AsmReason.TheVariants as reasons
use Rattle.abc_replay.specs.Prefaces.{TakesLog}
use Rattle.abc_tidy_entries.specs.Rules.{IsFirstTidyBroken as IsFirstUntidy, IsTidied}
use Rattle.abc_tidy_entries.specs.declared.error.TidyRule.{TidyRule}
use Rattle.abc_verify.specs.Verified.{IsVerifiedOf}
use Rattle.abc_cli_answers.specs.Grammar.{IsUsageWord, Says}
use Rattle.abc_cli_answers.specs.declared.command.Command.{Command}
use Rattle.abc_cli_answers.specs.declared.command.Command.TheVariants as commands
use Rattle.abc_cli_answers.specs.declared.command.Usage.{Usage}
use Rattle.abc_cli_answers.specs.declared.command.Usage.TheVariants as usages
use Rattle.abc_cli_answers.specs.Answers.{On, Answer, OfFile, OfFileRead, Unverified, bytes_answer, line_answer}
use Rattle.abc_cli_answers.specs.Lines.{fault_text, no_command_text, tidy_text, usage_text, verified_line}
use Rattle.abc_cli.specs.Calls.{Calls}
use Rattle.abc_cli.specs.Logs.{Log, Replay}
use Rattle.abc_cli.specs.Runs.{Gen, RunOfFile}

-- ---- commands

-- `canon` of a file: its canonical bytes
abbrev pub Canon : Abc → Answer → Type 0
Canon v a = a ≡ bytes_answer (file_bytes v)

-- `dis` of a file: its one text
abbrev pub Dis : Abc → Answer → Type 0
Dis v a = a ≡ bytes_answer (listing v)

-- `check` of a file that was read so: why it isn't verified, or else the number of its bodies
pub data Check (v : Abc) (starts : List (List ℕ)) (a : Answer) : Type 0 where
  unverified : Unverified v starts a → Check v starts a
  verified : (l : LinkedFile) → IsVerifiedOf v l → a ≡ bytes_answer (verified_line (length v.bodies)) → Check v starts a

-- how many bytes a text may have
abbrev pub text_limit : ℕ
text_limit = 2 ^ 28

-- `asm` of a text: the canonical bytes of the file that it is one of, or its first fault; one that is too long is refused at line 0
pub data Asm (text : List ℕ) (a : Answer) : Type 0 where
  assembled : (v : Abc) → length text ≤ text_limit → IsAssemblyOf text v → a ≡ bytes_answer (file_bytes v) → Asm text a
  refused : (f : Fault) → length text ≤ text_limit → IsAssemblyFault text f → a ≡ line_answer status.Refused (fault_text f) → Asm text a
  too_long : text_limit < length text → a ≡ line_answer status.Refused (fault_text (fault 0 reasons.TextTooLong)) → Asm text a

-- `tidy` of a file: the canonical bytes of the tidied file, or the first broken rule of tidying at its least index
pub data Tidy (v : Abc) (a : Answer) : Type 0 where
  tidied : (t : Abc) → IsTidied v t → a ≡ bytes_answer (file_bytes t) → Tidy v a
  untidy : (rule : TidyRule) (i : ℕ) → IsFirstUntidy v rule i → a ≡ line_answer status.Refused (tidy_text rule i) → Tidy v a

-- a command on an input, with the formulas of a host
abbrev pub OutcomeOf : List Formula → Command → List ℕ → Answer → Type 0
OutcomeOf formulas commands.Canon input a = OfFile Canon input a
OutcomeOf formulas commands.Dis input a = OfFile Dis input a
OutcomeOf formulas commands.Asm input a = Asm input a
OutcomeOf formulas commands.Check input a = OfFileRead Check input a
OutcomeOf formulas commands.Tidy input a = OfFile Tidy input a
OutcomeOf formulas (commands.Run options) input a = OfFileRead (RunOfFile options formulas) input a
OutcomeOf formulas (commands.Gen options) input a = Gen options formulas a
OutcomeOf formulas (commands.Calls options) input a = OfFileRead (Calls options formulas) input a
OutcomeOf formulas (commands.Log options) input a = OfFileRead (Log options formulas) input a
OutcomeOf formulas commands.Replay input a = Replay formulas input a

abbrev pub CommandOutcome : List Formula → Command → Option (List ℕ) → Answer → Type 0
CommandOutcome formulas command = On (OutcomeOf formulas command)

-- whether a command reads its input: only `gen` doesn't
abbrev pub reads_input : Command → Bool
reads_input commands.Canon = true
reads_input commands.Dis = true
reads_input commands.Asm = true
reads_input commands.Check = true
reads_input commands.Tidy = true
reads_input (commands.Run options) = true
reads_input (commands.Gen options) = false
reads_input (commands.Calls options) = true
reads_input (commands.Log options) = true
reads_input commands.Replay = true

-- How much of its input a command takes: at most one byte more than the greatest file has, or the greatest text; `replay` 73 more, but for the lines of a log behind a verified file.
abbrev pub TakesFor : Command → Option (List ℕ) → Option (List ℕ) → Type 0
TakesFor commands.Asm old new = TakesAtMost old new (text_limit + 1)
TakesFor commands.Replay old new = TakesLog old new
TakesFor command old new = TakesAtMost old new (limit + 1)

-- ---- words outside the grammar

-- words outside the grammar, by the word at which they go wrong
pub data UsageOutcome (words : List (List ℕ)) : Answer → Type 0 where
  no_command : words ≡ [] → UsageOutcome words (line_answer status.Usage no_command_text)
  word : (i : ℕ) → IsUsageWord words i → UsageOutcome words (line_answer status.Usage (usage_text (get_or words i [])))

-- the text of words outside the grammar, by how they go wrong
abbrev pub text_of_usage : List (List ℕ) → Usage → List ℕ
text_of_usage words usages.NoCommand = no_command_text
text_of_usage words (usages.Word i) = usage_text (get_or words i [])

abbrev pub usage_answer : List (List ℕ) → Usage → Answer
usage_answer words usage = line_answer status.Usage (text_of_usage words usage)

abbrev pub IsUsage : List (List ℕ) → Usage → Type 0
IsUsage words usages.NoCommand = words ≡ []
IsUsage words (usages.Word i) = IsUsageWord words i

-- ---- all words

-- The defined outcome of words and an input, with the formulas of a host: that of the command that they say, or their usage word.
pub data IsOutcome (words : List (List ℕ)) (formulas : List Formula) (input : Option (List ℕ)) (a : Answer) : Type 0 where
  usage : UsageOutcome words a → IsOutcome words formulas input a
  command : (c : Command) → Says words c → CommandOutcome formulas c input a → IsOutcome words formulas input a

-- the words ask for nothing of the input: they are outside the grammar, or say a command that doesn't read it
pub data AsksNoInput (words : List (List ℕ)) : Type 0 where
  usage : (a : Answer) → UsageOutcome words a → AsksNoInput words
  command : (c : Command) → Says words c → reads_input c ≡ false → AsksNoInput words
