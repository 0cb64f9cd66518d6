-- What stands in `out` after a file was tidied (profile: docs/THEOREMS.md, "The headline").
use Rattle.std.specs.Prelude.{◌≡◌, ℕ, List}
use Rattle.abc_file.specs.Reading.{OfInput}
use Rattle.abc_file_types.specs.Files.{IsFile}
use Rattle.abc_file_types.specs.declared.tables.Abc.{Abc}
use Rattle.abc_tidy.specs.Free.{HaveOneFree}
use Rattle.abc_cli_answers.specs.Answers.{Answer, OfFile, bytes_answer}
use Rattle.abc_cli_answers.specs.End.{Channel, Got}
use Rattle.abc_cli.specs.Outcome.{Tidy}

-- The bytes spell a file that has the free form of the file, and `tidy` of them gives just these bytes.
pub record IsTidiedOf (bytes : List ℕ) (v : Abc) : Type 0 where
  pub value : Abc
  pub spelled : IsFile value bytes
  pub kept : HaveOneFree v value
  pub again : (a : Answer) → OfFile Tidy bytes a → a ≡ bytes_answer bytes

-- The sink got such bytes for the file that the input spells.
pub record IsMadeTidy (out : Channel) (input : List ℕ) : Type 0 where
  pub value : Abc
  pub bytes : List ℕ
  pub read : IsFile value input
  pub got : Got out bytes
  pub tidied : IsTidiedOf bytes value

-- the input that the source told, or else some input, was tidied into `out`
abbrev pub Tidies : Channel → Channel → Type 0
Tidies source out = OfInput source.before (λ input. IsMadeTidy out input)
