-- The canonical bytes of each value: its shortest spelling (profile: docs/FORMAT.md, "Canonical bytes").
use Rattle.std.specs.Prelude.{◌≡◌, ℤ, pos, negsuc, ◌≤ℤ◌, ◌<ℤ◌, ◌-◌, ◌+◌, ◌^◌, ℕ, suc, ◌%◌, ◌/◌, ◌≤◌, List, [], ◌∷◌, ◌++◌, length}
use Rattle.std.specs.Int.{w32, cast_unsigned}
use Rattle.std.specs.List.{flat_map}
use Rattle.abc_base.specs.Numbers.{number_bytes}
use Rattle.abc_file_types.specs.Part.{Part}

-- As many bytes, and none is greater than that in its place.
abbrev pub NoGreater : List ℕ → List ℕ → Type 0
NoGreater [] [] = Unit {0}
NoGreater [] (y ∷ c) = ⊥
NoGreater (x ∷ b) [] = ⊥
NoGreater (x ∷ b) (y ∷ c) = (x ≤ y) × NoGreater b c

-- The canonical bytes of a value, as a relation: of its spellings none is shorter, and of those as short none has a lesser
-- byte in any place. So each number has the fewest bytes, and no bit that says nothing: an s32 is its 32 bits, unsigned.
pub record IsLeast {A : Type 0} (p : Part A) (x : A) (b : List ℕ) : Type 0 where
  pub spelled : p.spells x b
  pub shortest : (c : List ℕ) → p.spells x c → length b ≤ length c
  pub least : (c : List ℕ) → p.spells x c → length b ≡ length c → NoGreater b c

-- What f gives are the canonical bytes, where there is a spelling.
pub record IsCanonical {A : Type 0} (p : Part A) (f : A → List ℕ) : Type 0 where
  pub spelled : (x : A) (b : List ℕ) → p.spells x b → p.spells x (f x)
  pub shortest : (x : A) (b : List ℕ) → p.spells x b → length (f x) ≤ length b
  pub least : (x : A) (b : List ℕ) → p.spells x b → length (f x) ≡ length b → NoGreater (f x) b

-- an s32 is its 32 bits, unsigned
unfoldable pub s32_bytes : ℤ → List ℕ
s32_bytes z = number_bytes (cast_unsigned w32 z)

-- two bytes, the low one first
unfoldable pub u16_bytes : ℕ → List ℕ
u16_bytes x = x % 256 ∷ x / 256 ∷ []

-- 24 bits in two's complement
abbrev pub low24 : ℤ → ℕ
low24 (pos n) = n
low24 (negsuc n) = 2 ^ 24 - suc n

-- 24 bits in two's complement, as three bytes, the low one first
unfoldable pub s24_bytes : ℤ → List ℕ
s24_bytes z = low24 z % 256 ∷ low24 z / 256 % 256 ∷ low24 z / 65536 ∷ []

-- the number is one of 24 bits in two's complement: from -2^23 to 2^23 - 1
abbrev pub FitsS24 : ℤ → Type 0
FitsS24 z = (negsuc 8388607 ≤ℤ z) × (z <ℤ pos 8388608)

-- a count and the items
unfoldable pub counted_bytes : {A : Type 0} → (A → List ℕ) → List A → List ℕ
counted_bytes f xs = number_bytes (length xs) ++ flat_map f xs

-- the number of the bytes, and the bytes
unfoldable pub text_bytes : List ℕ → List ℕ
text_bytes b = number_bytes (length b) ++ b

-- the count of a pool: entry 0 counts too, unless the pool is empty
abbrev pub pool_count : {A : Type 0} → List A → ℕ
pool_count [] = 0
pool_count (x ∷ xs) = length xs + 2

-- the count of a pool, and its entries
unfoldable pub pool_bytes : {A : Type 0} → (A → List ℕ) → List A → List ℕ
pool_bytes f xs = number_bytes (pool_count xs) ++ flat_map f xs
