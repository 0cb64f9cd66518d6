-- Where an input doesn't begin with the line that stands behind a file (profile: docs/PROGRAM.md, "Logs").
use Rattle.std.specs.Prelude.{◌≡◌, ◌≢◌, ℕ, ◌<◌, Bool, true, false, not, ◌&&◌, nat_eq, nat_le, List, [], ◌∷◌, ◌++◌, length}
use Rattle.std.specs.List.{list_all}
use Rattle.abc_heap_store.specs.declared.records.Limits.{Limits}
use Rattle.abc_log.specs.Lines.{AreLimits, limits_line}

-- `0` to `9`
abbrev pub is_limit_digit : ℕ → Bool
is_limit_digit byte = nat_le 48 byte && nat_le byte 57

-- any byte but a line feed
abbrev pub is_no_feed : ℕ → Bool
is_no_feed byte = not (nat_eq byte 10)

-- no byte that passes the test comes first
abbrev pub EndsAll : (ℕ → Bool) → List ℕ → Type 0
EndsAll passes [] = Unit {0}
EndsAll passes (b ∷ bs) = passes b ≡ false

-- no line of fewer than so many bytes is at the front
abbrev pub HasNoLine : (most : ℕ) → List ℕ → Type 0
HasNoLine most input = (line more : List ℕ) → list_all is_no_feed line ≡ true → length line < most → input ≢ line ++ 10 ∷ more

-- no line of limits is at the front
abbrev pub HasNoLimits : List ℕ → Type 0
HasNoLimits input = (fuel : ℕ) (m : Limits) (more : List ℕ) → AreLimits fuel m → input ≢ limits_line fuel m ++ more
