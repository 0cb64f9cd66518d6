-- What is written to a sink: all of a piece, or the front of it where writing failed
-- (profile: docs/THEOREMS.md, "Sources, sinks, words and the host").
use Rattle.std.specs.Prelude.{◌≡◌, ℕ, List, take, IsSome, MatchResult}
use Rattle.std.specs.Io.KnownBytes.{append_known}
use Rattle.std.specs.declared.option.Option.{Option}
use Rattle.std.specs.declared.result.Result.{Result}

-- what was written grew by the first bytes of a piece: by none, by some or by all
pub record GrowsByFront (old new : Option (List ℕ)) (piece : List ℕ) : Type 0 where
  pub count : ℕ
  pub front : new ≡ append_known old (take count piece)

-- what was written, where it is told, grew by all of a piece, or by the front of it where the call failed
abbrev pub WritesAll : {T E : Type 0} → Option (List ℕ) → Option (List ℕ) → Result T E → List ℕ → Type 0
WritesAll old new result piece = IsSome old → MatchResult result (λ _. new ≡ append_known old piece) (λ _. GrowsByFront old new piece)
