-- What stands in `out` after a file was disassembled (profile: docs/THEOREMS.md, "The headline").
use Rattle.std.specs.Prelude.{◌≡◌, ◌<◌, ◌≤◌, ℕ, List, All, length}
use Rattle.abc_file.specs.Reading.{OfInput}
use Rattle.abc_text_lines.specs.Answers.{IsAssemblyOf}
use Rattle.abc_file_types.specs.declared.tables.Abc.{Abc}
use Rattle.abc_file_types.specs.Files.{IsFile, file_bytes}
use Rattle.abc_cli_answers.specs.End.{Channel, Got}
use Rattle.abc_cli_answers.specs.Answers.{Answer, OfFile, bytes_answer}
use Rattle.abc_cli.specs.Outcome.{Asm, Canon, text_limit}

abbrev pub AreBytes : List ℕ → Type 0
AreBytes input = All (λ byte. byte < 256) input

-- A text of the file, and of no other; unless it is too long, `asm` of it gives the canonical bytes of the file.
pub record IsTextOf (text : List ℕ) (v : Abc) : Type 0 where
  pub is_text : IsAssemblyOf text v
  pub no_other : (w : Abc) → IsAssemblyOf text w → w ≡ v
  pub assembled : length text ≤ text_limit → (a : Answer) → Asm text a → a ≡ bytes_answer (file_bytes v)

-- The sink got a text of the file that the input spells, and of no other; unless it is too long, `asm` of it gives what `canon` of the input gives.
pub record IsListing (out : Channel) (input : List ℕ) : Type 0 where
  pub value : Abc
  pub bytes : List ℕ
  pub read : IsFile value input
  pub got : Got out bytes
  pub text : AreBytes input → IsTextOf bytes value
  pub as_canon : AreBytes input → length bytes ≤ text_limit → (a b : Answer) → OfFile Canon input a → Asm bytes b → a ≡ b

-- the input that the source told, or else some input, was disassembled into `out`
abbrev pub Lists : Channel → Channel → Type 0
Lists source out = OfInput source.before (λ input. IsListing out input)
