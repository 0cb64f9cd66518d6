-- How numbers are spelled: seven bits a byte, the low bits first, and the high bit is set where another byte follows
-- (Overview, chapter 4; profile: docs/FORMAT.md, "Numbers" and "Canonical bytes").
use Rattle.std.specs.Prelude.{◌≡◌, ℕ, ℤ, zero, suc, pos, ◌-ℤ◌, ◌+◌, ◌*◌, ◌/◌, ◌%◌, ◌^◌, ◌<◌, ◌≤◌, List, [], ◌∷◌, ◌++◌, length, nat_lt, if◌then◌else◌}
use Rattle.std.specs.List.{AllByRecursion, enumerate_from, sum_by}

-- the low seven bits of each byte, times 128 to the power of its position
abbrev pub raw_value : List ℕ → ℕ
raw_value bytes = sum_by (λ p. p.1 % 128 * 128 ^ p.0) (enumerate_from 0 bytes)

-- One to five bytes spell a raw value of up to 35 bits: all but the last have the high bit set, and the last has it clear.
pub record SpellsNumber (raw : ℕ) (bytes : List ℕ) : Type 0 where
  pub high : List ℕ
  pub last : ℕ
  pub parts : bytes ≡ high ++ last ∷ []
  pub more : AllByRecursion (λ b. 128 ≤ b) high
  pub stops : last < 128
  pub few : length bytes ≤ 5
  pub value : raw ≡ raw_value bytes

-- a raw value below 2^30
abbrev pub SpellsU30 : ℕ → List ℕ → Type 0
SpellsU30 x bytes = SpellsNumber x bytes × (x < 2 ^ 30)

-- a raw value, modulo 2^32
abbrev pub SpellsU32 : ℕ → List ℕ → Type 0
SpellsU32 x bytes = (raw : ℕ) × SpellsNumber raw bytes × (x ≡ raw % 2 ^ 32)

-- 24 bits in two's complement
abbrev pub signed24 : ℕ → ℤ
signed24 x = if nat_lt x (2 ^ 23) then pos x else pos x -ℤ pos (2 ^ 24)

-- ---- the fewest bytes

-- at most k groups of seven bits, and no more than the number needs
abbrev pub groups_of : ℕ → ℕ → List ℕ
groups_of zero x = []
groups_of (suc k) x = if nat_lt x 128 then x ∷ [] else (x % 128 + 128) ∷ groups_of k (x / 128)

-- the canonical spelling of a raw value
unfoldable pub number_bytes : ℕ → List ℕ
number_bytes x = groups_of 5 x

-- so many bytes are the fewest of a spelling
pub record IsFewest (Spells : List ℕ → Type 0) (count : ℕ) : Type 0 where
  pub shortest : List ℕ
  pub spelled : Spells shortest
  pub counted : length shortest ≡ count
  pub least : (bytes : List ℕ) → Spells bytes → count ≤ length bytes
