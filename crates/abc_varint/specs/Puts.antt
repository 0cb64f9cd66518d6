-- What a writer leaves.
use Rattle.std.specs.Prelude.{◌≡◌, ℕ, List, ◌++◌, length, take, MatchResult}
use Rattle.std.specs.declared.result.Result.{Result}

-- The bytes stand at the end; where memory ran out, nothing changed.
abbrev pub PutsWhole : {T E : Type 0} → List ℕ → List ℕ → Result T E → List ℕ → Type 0
PutsWhole old new r bytes = MatchResult r (λ _. new ≡ old ++ bytes) (λ _. new ≡ old)

-- The bytes stand at the end; where memory ran out, at most some others do.
abbrev pub Puts : {T E : Type 0} → List ℕ → List ℕ → Result T E → List ℕ → Type 0
Puts old new r bytes = MatchResult r (λ _. new ≡ old ++ bytes) (λ _. take (length old) new ≡ old)
