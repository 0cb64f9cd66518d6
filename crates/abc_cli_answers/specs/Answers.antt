-- Answers, and what a file is answered with before a command is asked (profile: docs/PROGRAM.md, "Statuses").
use Rattle.std.specs.Prelude.{◌≡◌, ℕ, List, []}
use Rattle.std.specs.declared.option.Option.{Option}
use Rattle.abc_base.specs.declared.status.Status.{Status}
use Rattle.abc_base.specs.declared.status.Status.TheVariants as status
use Rattle.abc_file.specs.Reading.{OfInput}
use Rattle.abc_file_types.specs.Part.{Refusal}
use Rattle.abc_file_types.specs.declared.tables.Abc.{Abc}
use Rattle.abc_file_types.specs.Files.{IsBadFile, IsFile, IsFileRead}
use Rattle.abc_verify.specs.FileRefusing.{IsUnverified}
use Rattle.abc_verify.specs.declared.verified_error.VerifiedError.{VerifiedError}
use Rattle.abc_cli_answers.specs.Lines.{told_line, refusal_text, unverified_text}

-- a status, the bytes for `out` and the bytes for `err`
pub record Answer : Type 0 where
  pub status : Status
  pub out : List ℕ
  pub err : List ℕ

-- an answer that writes bytes and no line
abbrev pub bytes_answer : List ℕ → Answer
bytes_answer bytes = record { status = status.Done; out = bytes; err = [] }

-- an answer that writes a line and nothing else
abbrev pub line_answer : Status → List ℕ → Answer
line_answer s text = record { status = s; out = []; err = told_line text }

-- an outcome on the input that a source tells, or else on some input
abbrev pub On : (List ℕ → Answer → Type 0) → Option (List ℕ) → Answer → Type 0
On Outcome left a = OfInput left (λ input. Outcome input a)

-- ---- files

-- A command on a file: what the file is answered with that the input spells, or the input's first fault.
pub data OfFile (Answers : Abc → Answer → Type 0) (input : List ℕ) (a : Answer) : Type 0 where
  accepted : (v : Abc) → IsFile v input → Answers v a → OfFile Answers input a
  refused : (r : Refusal) → IsBadFile input r → a ≡ line_answer status.Refused (refusal_text r) → OfFile Answers input a

-- The same of a command that speaks of code as it was read, by the starts of each body's instructions.
pub data OfFileRead (Answers : Abc → List (List ℕ) → Answer → Type 0) (input : List ℕ) (a : Answer) : Type 0 where
  accepted : (v : Abc) (starts : List (List ℕ)) → IsFileRead (v, starts) input → Answers v starts a → OfFileRead Answers input a
  refused : (r : Refusal) → IsBadFile input r → a ≡ line_answer status.Refused (refusal_text r) → OfFileRead Answers input a

-- why a file that was read so isn't verified: its first broken rule of linking, or else its first method without a typing
abbrev pub Unverified : Abc → List (List ℕ) → Answer → Type 0
Unverified v starts a = (e : VerifiedError) × IsUnverified v starts e × (a ≡ line_answer status.Refused (unverified_text e))
