-- Words, formulas of a host and an input have an outcome: it can't be that there is none.
use Rattle.std.proofs.Common.{◌≡◌, ◌⊎◌, inl, inr, ℕ, ◌<◌, ◌≤◌, List, [], length, get_or, refl}
use Rattle.std.proofs.lemmas.Bool.{cases_lt}
use Rattle.abc_base.specs.Hosts.{AreFormulas}
use Rattle.abc_base.specs.declared.formula.Formula.{Formula}
use Rattle.abc_base.specs.declared.status.Status.TheVariants as status
use Rattle.abc_file_types.specs.Files.{IsBadFile, IsFile, file_bytes}
use Rattle.abc_file_types.specs.Part.{Refusal}
use Rattle.abc_file_types.specs.declared.tables.Abc.{Abc}
use Rattle.abc_file_types.proofs.Whole.{decided}
use Rattle.abc_meaning.specs.ThrowLaws.{IsNeverStuck}
use Rattle.abc_session.specs.Laws.{TicksCanBeTold}
use Rattle.abc_text_lines.specs.Answers.{IsAssemblyFault, IsAssemblyOf}
use Rattle.abc_text_lines.specs.Listing.{listing}
use Rattle.abc_text_lines.specs.Rows.{Fault, fault}
use Rattle.abc_text_lines.specs.declared.reason.AsmReason.TheVariants as reasons
use Rattle.abc_text_lines.proofs.Answering.{text_decided}
use Rattle.abc_tidy.proofs.Deciding.{has_one}
use Rattle.abc_cli_answers.specs.Answers.{Answer, OfFile, bytes_answer, line_answer}
use Rattle.abc_cli_answers.specs.Grammar.{IsUsageWord, IsWellFormed, Says}
use Rattle.abc_cli_answers.specs.Lines.{fault_text, no_command_text, refusal_text, tidy_text, usage_text}
use Rattle.abc_cli_answers.specs.declared.command.Command.{Command}
use Rattle.abc_cli_answers.specs.declared.command.Command.TheVariants as commands
use Rattle.abc_cli_answers.proofs.Verdicts.{one_of_three}
use Rattle.abc_cli.specs.Answered.{IsSomeOutcome}
use Rattle.abc_cli.specs.Calls.{Calls}
use Rattle.abc_cli.specs.Logs.{Log}
use Rattle.abc_cli.specs.Outcome.{Asm, Canon, Check, Dis, IsOutcome, OutcomeOf, Tidy, UsageOutcome, text_limit}
use Rattle.abc_cli.specs.Runs.{RunOfFile}
use Rattle.abc_cli.proofs.SomeReplay.{some_replay}
use Rattle.abc_cli.proofs.SomeRun.{some_calls, some_check, some_gen, some_log, some_of_read, some_run}
use Rattle.abc_cli.proofs.Usages.{calls_counted, few_times, log_counted, run_counted}

-- ---- commands

-- what a file is answered with, or the fault of its bytes
some_of_file : (Answers : Abc → Answer → Type 0) (input : List ℕ) → ((v : Abc) → IsFile v input → ((a : Answer) → Answers v a → ⊥) → ⊥) → ((a : Answer) → OfFile Answers input a → ⊥) → ⊥
some_of_file Answers input some none = go (decided input).some
  where
    go : ((v : Abc) × IsFile v input) ⊎ ((r : Refusal) × IsBadFile input r) → ⊥
    go (inl f) = some f.0 f.1 (λ a x. none a (OfFile.accepted f.0 f.1 x))
    go (inr f) = none (line_answer status.Refused (refusal_text f.0)) (OfFile.refused f.0 f.1 refl)

some_asm : (text : List ℕ) → ((a : Answer) → Asm text a → ⊥) → ⊥
some_asm text none = go (cases_lt text_limit (length text)) (text_decided text).some
  where
    go : (text_limit < length text) ⊎ (length text ≤ text_limit) → ((v : Abc) × IsAssemblyOf text v) ⊎ ((f : Fault) × IsAssemblyFault text f) → ⊥
    go (inl long) x = none (line_answer status.Refused (fault_text (fault 0 reasons.TextTooLong))) (Asm.too_long long refl)
    go (inr short) (inl x) = none (bytes_answer (file_bytes x.0)) (Asm.assembled x.0 short x.1 refl)
    go (inr short) (inr x) = none (line_answer status.Refused (fault_text x.0)) (Asm.refused x.0 short x.1 refl)

some_tidy : (v : Abc) → ((a : Answer) → Tidy v a → ⊥) → ⊥
some_tidy v none = (has_one v).some (λ t is. none (bytes_answer (file_bytes t)) (Tidy.tidied t is refl)) (λ rule i broken. none (line_answer status.Refused (tidy_text rule i)) (Tidy.untidy rule i broken refl))

module _ (formulas : List Formula) (host : AreFormulas formulas) (never : IsNeverStuck) (ticks : TicksCanBeTold) (words : List (List ℕ)) (input : List ℕ) where
  some_answer : (c : Command) → Says words c → ((a : Answer) → OutcomeOf formulas c input a → ⊥) → ⊥
  some_answer commands.Canon says none = some_of_file Canon input (λ v f k. k (bytes_answer (file_bytes v)) refl) none
  some_answer commands.Dis says none = some_of_file Dis input (λ v f k. k (bytes_answer (listing v)) refl) none
  some_answer commands.Asm says none = some_asm input none
  some_answer commands.Check says none = some_of_read Check input some_check none
  some_answer commands.Tidy says none = some_of_file Tidy input (λ v f k. some_tidy v k) none
  some_answer (commands.Run o) says none = some_of_read (RunOfFile o formulas) input (λ v starts fits k. some_run formulas host never v starts fits o (run_counted words o says) k) none
  some_answer (commands.Gen o) says none = some_gen o formulas host never none
  some_answer (commands.Calls o) says none =
      some_of_read (Calls o formulas) input (λ v starts fits k. some_calls formulas host never v starts fits ticks o (calls_counted words o says) (few_times words o says) k) none
  some_answer (commands.Log o) says none = some_of_read (Log o formulas) input (λ v starts fits k. some_log formulas host never v starts fits o (log_counted words o says) k) none
  some_answer commands.Replay says none = some_replay formulas host input none

-- ---- words

pub some_outcome : IsNeverStuck → TicksCanBeTold → IsSomeOutcome
some_outcome never ticks words formulas input host none = go (one_of_three words)
  where
    go : IsWellFormed words ⊎ ((words ≡ []) ⊎ ((i : ℕ) × IsUsageWord words i)) → ⊥
    go (inl w) = some_answer formulas host never ticks words input w.0 w.1 (λ a x. none a (IsOutcome.command w.0 w.1 x))
    go (inr (inl e)) = none (line_answer status.Usage no_command_text) (IsOutcome.usage (UsageOutcome.no_command e))
    go (inr (inr w)) = none (line_answer status.Usage (usage_text (get_or words w.0 []))) (IsOutcome.usage (UsageOutcome.word w.0 w.1))
