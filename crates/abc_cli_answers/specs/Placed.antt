-- Where the instructions of a file start in its canonical bytes.
use Rattle.std.specs.Prelude.{ℕ, List, map}
use Rattle.abc_file_types.specs.declared.code.Body.{Body}
use Rattle.abc_file_types.specs.declared.tables.Abc.{Abc}
use Rattle.abc_file_types.specs.CodeBytes.{canonical_starts}
use Rattle.abc_file_types.specs.Files.{IsFileRead, file_bytes}

-- the starts of each body's instructions in its canonical code, and its length
abbrev pub starts_in : List Body → List (List ℕ)
starts_in bodies = map (λ b. canonical_starts b.code) bodies

-- The canonical bytes of a file are read as this file, and its instructions start so in them.
abbrev pub IsReadAgain : Abc → List (List ℕ) → Type 0
IsReadAgain v starts = IsFileRead (v, starts) (file_bytes v)
