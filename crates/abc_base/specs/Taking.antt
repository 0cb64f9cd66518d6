-- What is taken of an input, and appended (a tool of other definitions).
use Rattle.std.specs.Prelude.{◌≡◌, ℕ, ◌≤◌, ◌<◌, Bool, true, false, List, [], ◌++◌, length, Ok, Err}
use Rattle.std.specs.Io.KnownBytes.{Consumes, IsAtEnd}
use Rattle.std.specs.declared.option.Option.{Option}
use Rattle.std.specs.declared.result.Result.{Result}

-- some bytes were taken, at most so many
abbrev pub TakesAtMost : Option (List ℕ) → Option (List ℕ) → ℕ → Type 0
TakesAtMost old new most = (taken : List ℕ) × Consumes old new taken × (length taken ≤ most)

-- Some bytes were taken and appended, at most so many; or none, at the input's end. Where there is an Err they are lost.
abbrev pub MovesBytes : {E : Type 0} → Option (List ℕ) → Option (List ℕ) → ℕ → List ℕ → List ℕ → Result Bool E → Type 0
MovesBytes old new most before after (Ok true) = (taken : List ℕ) × Consumes old new taken × (0 < length taken) × (length taken ≤ most) × (after ≡ before ++ taken)
MovesBytes old new most before after (Ok false) = Consumes old new [] × (after ≡ before) × IsAtEnd new
MovesBytes old new most before after (Err e) = TakesAtMost old new most
