-- Where the pieces of code start (a tool of other definitions).
use Rattle.std.specs.Prelude.{◌≡◌, ℕ, suc, ◌+◌, ◌<◌, ◌≤◌, List, [], ◌∷◌, length, get_or, take}

-- how many bytes the pieces have
abbrev pub size : {A : Type 0} → List (A × ℕ) → ℕ
size [] = 0
size (x ∷ xs) = x.1 + size xs

-- the start of piece t, or the end: the sum of the lengths of the first t pieces
abbrev pub start : {A : Type 0} → List (A × ℕ) → ℕ → ℕ
start ps t = size (take t ps)

-- All starts in order, and the length of all pieces as the last.
pub record AreStarts {A : Type 0} (ps : List (A × ℕ)) (os : List ℕ) : Type 0 where
  pub count : length os ≡ suc (length ps)
  pub each : (t : ℕ) → t ≤ length ps → get_or os t 0 ≡ start ps t

-- Later starts are greater.
pub record IsRising (ss : List ℕ) : Type 0 where
  pub rising : (i j : ℕ) → i < j → j < length ss → get_or ss i 0 < get_or ss j 0

-- the starts, one after the other, from the place of the first on
abbrev pub starts : {A : Type 0} → ℕ → List (A × ℕ) → List ℕ
starts at [] = at ∷ []
starts at (x ∷ xs) = at ∷ starts (at + x.1) xs
