-- What is answered of a file that was read.
use Rattle.std.proofs.Common.{◌≡◌, List, ℕ, refl, ap}
use Rattle.std.specs.declared.option.Option.{Option}
use Rattle.abc_base.specs.declared.status.Status.TheVariants as status
use Rattle.abc_file_types.specs.Part.{Refusal, refusal}
use Rattle.abc_varint.specs.declared.error.ReadError.{ReadError}
use Rattle.abc_varint.specs.declared.error.ReadError.TheVariants as errors
use Rattle.abc_file.specs.Reading.{IsErrorOf, IsUsedUp, IsWrittenOf, OfInput, Refuses, WritesFile}
use Rattle.abc_file_types.specs.declared.tables.Abc.{Abc}
use Rattle.abc_file_types.specs.Files.{IsBadFile, IsFile, IsFileRead, file_bytes}
use Rattle.abc_file_types.proofs.Whole.{read_spelled}
use Rattle.abc_tidy_entries.specs.declared.error.TidyError.{TidyError}
use Rattle.abc_tidy_entries.specs.declared.error.TidyError.TheVariants as tidying
use Rattle.abc_tidy_entries.specs.Rules.{IsTidied, IsTidyError}
use Rattle.abc_verify.proofs.Verifying.{of_any}
use Rattle.abc_cli_answers.specs.declared.stop.Stop.{Stop}
use Rattle.abc_cli_answers.specs.declared.stop.Stop.TheVariants as stops
use Rattle.abc_cli_answers.specs.Lines.{refusal_text}
use Rattle.abc_cli_answers.specs.Answers.{Answer, OfFile, OfFileRead, On, line_answer, bytes_answer}
use Rattle.abc_cli_answers.specs.Stops.{GivesAllBytes, Stops, StopsAt, stop_answer, stop_of_read, stop_of_tidy}
use Rattle.abc_cli_answers.specs.End.{Channel, HasFailed}
use Rattle.abc_cli_answers.proofs.Ending.{memory_stops}
use Rattle.abc_cli.specs.Outcome.{Tidy}

-- ---- outcomes on a file

-- the outcome is one on a file, with the starts of its instructions as they were read
pub record IsOnFile (Outcome : List ℕ → Answer → Type 0) (Answers : Abc → List (List ℕ) → Answer → Type 0) : Type 0 where
  pub accepted : (v : Abc) (starts : List (List ℕ)) (input : List ℕ) (a : Answer) → IsFileRead (v, starts) input → Answers v starts a → Outcome input a
  pub refused : (r : Refusal) (input : List ℕ) → IsBadFile input r → Outcome input (line_answer status.Refused (refusal_text r))

-- one that speaks of the file alone
abbrev pub alone : (Abc → Answer → Type 0) → Abc → List (List ℕ) → Answer → Type 0
alone Answers v starts a = Answers v a

pub on_file : (Answers : Abc → Answer → Type 0) → IsOnFile (OfFile Answers) (alone Answers)
on_file Answers = record {
  accepted = λ v starts input a r x. OfFile.accepted v (read_spelled (v, starts) input r.0, r.1) x;
  refused = λ r input bad. OfFile.refused r bad refl;
}

pub on_file_read : (Answers : Abc → List (List ℕ) → Answer → Type 0) → IsOnFile (OfFileRead Answers) Answers
on_file_read Answers = record { accepted = λ v starts input a r x. OfFileRead.accepted v starts r x; refused = λ r input bad. OfFileRead.refused r bad refl }

pub read_stops : (Outcome : List ℕ → Answer → Type 0) (Answers : Abc → List (List ℕ) → Answer → Type 0) → IsOnFile Outcome Answers → (source : Channel) (e : ReadError) → IsErrorOf source.before e → (e ≡ errors.ReadFault → HasFailed source)
    → Stops Outcome source (stop_of_read e)
read_stops Outcome Answers on source (errors.Refused place reason) f cause = record {
  outcome = λ d. of_any (Refuses (errors.Refused place reason)) (λ input. Outcome input (stop_answer (stops.File place reason))) source.before
      (λ b bad. on.refused (refusal place reason) b bad) f;
  cause = λ h. absurd cc;
}
read_stops Outcome Answers on source errors.ReadFault f cause = record { outcome = λ d. absurd d; cause = λ h. cause refl }
read_stops Outcome Answers on source errors.NoMemory f cause = memory_stops Outcome source

-- what a file that was read alone is answered with
alone_answered : (Answers : Abc → Answer → Type 0) (left : Option (List ℕ)) (v : Abc) (a : Answer) → OfInput left (IsFile v) → Answers v a → On (OfFile Answers) left a
alone_answered Answers left v a f x = of_any (IsFile v) (λ input. OfFile Answers input a) left (λ b r. OfFile.accepted v r x) f

pub alone_gives : (Answers : Abc → Answer → Type 0) (source : Channel) (v : Abc) (bytes : List ℕ) → OfInput source.before (IsFile v) → IsUsedUp source.before source.after → Answers v (bytes_answer bytes) → GivesAllBytes (OfFile Answers) source bytes
alone_gives Answers source v bytes f used x = record { outcome = alone_answered Answers source.before v (bytes_answer bytes) f x; used_up = used }

pub alone_stops_at : (Answers : Abc → Answer → Type 0) (source : Channel) (v : Abc) (stop : Stop) → OfInput source.before (IsFile v) → StopsAt (Answers v) stop → Stops (OfFile Answers) source stop
alone_stops_at Answers source v stop f x = record { outcome = λ d. alone_answered Answers source.before v (stop_answer stop) f (x.answer d); cause = λ e. absurd (x.read e) }

pub memory_stops_at : (Answers : Answer → Type 0) → StopsAt Answers stops.NoMemory
memory_stops_at Answers = record { answer = λ d. absurd d; read = λ e. absurd cc }

-- ---- `canon` and `dis`

-- what is written of a file is given
pub written_gives : (write : Abc → List ℕ) (source : Channel) (bytes : List ℕ) → IsWrittenOf write source.before bytes → IsUsedUp source.before source.after → GivesAllBytes (OfFile (λ v a. a ≡ bytes_answer (write v))) source bytes
written_gives write source bytes f used = record {
  outcome = of_any (WritesFile write bytes) (λ input. OfFile (λ v a. a ≡ bytes_answer (write v)) input (bytes_answer bytes)) source.before (λ b x. OfFile.accepted x.0 x.1 (ap bytes_answer x.2)) f;
  used_up = used;
}

-- ---- `tidy`

pub tidy_stops_at : (v : Abc) (e : TidyError) → IsTidyError v e → StopsAt (Tidy v) (stop_of_tidy e)
tidy_stops_at v (tidying.Refused rule i) h = record { answer = λ d. Tidy.untidy rule i h refl; read = λ e. absurd cc }
tidy_stops_at v tidying.NoMemory h = memory_stops_at (Tidy v)

pub tidied_gives : (v t : Abc) (bytes : List ℕ) → IsTidied v t → bytes ≡ file_bytes t → Tidy v (bytes_answer bytes)
tidied_gives v t bytes h is = Tidy.tidied t h (ap bytes_answer is)
