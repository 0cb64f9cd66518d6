-- Bytes and numbers as parts (Overview, chapter 4; profile: docs/FORMAT.md, "Numbers" and "Ranges of indices").
use Rattle.std.specs.Int.{w32, cast_signed}
use Rattle.std.specs.Prelude.{ℤ, ◌≡◌, ℕ, zero, suc, ◌+◌, ◌*◌, ◌%◌, ◌^◌, ◌<◌, ◌≤◌, ◌⊎◌, ◌&&◌, List, [], ◌∷◌, length, Ok, Err, nat_lt, nat_le, if◌then◌else◌}
use Rattle.std.specs.declared.result.Result.{Result}
use Rattle.std.specs.List.{AllByRecursion}
use Rattle.abc_base.specs.Numbers.{SpellsNumber, signed24}
use Rattle.abc_file_types.specs.declared.reason.Reason.TheVariants as reasons
use Rattle.abc_file_types.specs.Part.{At, Refusal, refusal, limit, ◌>>=◌, Part, Front, both, image, with_test}

-- ---- one byte

abbrev pub byte_here : ℕ → ℕ → List ℕ → Result (ℕ × At) Refusal
byte_here end n [] = Err (refusal n reasons.Short)
byte_here end n (x ∷ rest) = if nat_lt n limit then Ok (x, record { place = n + 1; bytes = rest; end = end }) else Err (refusal n reasons.FileTooLong)

abbrev pub byte_at : ℕ → ℕ → List ℕ → Result (ℕ × At) Refusal
byte_at end n bytes = if nat_lt n end then byte_here end n bytes else Err (refusal n reasons.CodeEnds)

-- no byte is here, or the greatest file ends before it
abbrev pub BadHere : At → Refusal → Type 0
BadHere from r = ((from.bytes ≡ []) × (r ≡ refusal from.place reasons.Short)) ⊎ ((x : ℕ) × (rest : List ℕ) × (from.bytes ≡ x ∷ rest) × (limit ≤ from.place) × (r ≡ refusal from.place reasons.FileTooLong))

abbrev pub byte : Part ℕ
byte = record {
  spells = λ x b. b ≡ x ∷ [];
  bad = λ from r. ((from.end ≤ from.place) × (r ≡ refusal from.place reasons.CodeEnds)) ⊎ ((from.place < from.end) × BadHere from r);
  reads = λ from. byte_at from.end from.place from.bytes;
}

-- one byte
unfoldable pub u8 : Part ℕ
u8 = byte

-- ---- numbers of one to five bytes

-- reads at most k more bytes of a number that begins at the place `start`
abbrev pub groups : ℕ → ℕ → At → Result (ℕ × At) Refusal
groups zero start from = Err (refusal start reasons.LongNumber)
groups (suc k) start from = byte_at from.end from.place from.bytes >>= λ x. if nat_lt x.0 128 then Ok x else groups k start x.1 >>= λ y. Ok (x.0 % 128 + 128 * y.0, y.1)

-- After some bytes with the high bit set, fewer than five, the next can't be read; or five of them stand here.
pub record BadNumber (from : At) (r : Refusal) : Type 0 where
  pub high : List ℕ
  pub after : At
  pub is : Front from high after
  pub each : AllByRecursion (λ b. 128 ≤ b) high
  pub why : ((length high < 5) × byte.bad after r) ⊎ ((length high ≡ 5) × (r ≡ refusal from.place reasons.LongNumber))

-- a raw value of up to 35 bits
abbrev pub number : Part ℕ
number = record {
  spells = SpellsNumber;
  bad = BadNumber;
  reads = λ from. groups 5 from.place from;
}

-- a number of one to five bytes, which is below 2^30
unfoldable pub u30 : Part ℕ
u30 = with_test (λ x. nat_lt x (2 ^ 30)) reasons.BigNumber number

-- a number of one to five bytes, of which the low 32 bits count
unfoldable pub u32 : Part ℕ
u32 = image (λ x. x % 2 ^ 32) number

-- 32 bits in two's complement
unfoldable pub s32 : Part ℤ
s32 = image (λ x. cast_signed w32 (x % 2 ^ 32)) number

-- ---- numbers of a fixed length, the low byte first

-- two bytes, the low one first
unfoldable pub u16 : Part ℕ
u16 = image (λ x. x.0 % 256 + 256 * (x.1 % 256)) (both u8 u8)

-- 24 bits in two's complement
unfoldable pub s24 : Part ℤ
s24 = image (λ x. signed24 (x.0 % 256 + 256 * (x.1.0 % 256) + 65536 * (x.1.1 % 256))) (both u8 (both u8 u8))

-- ---- indices

-- a position in a table of n entries that counts from 0
unfoldable pub index_below : ℕ → Part ℕ
index_below n = with_test (λ x. nat_lt x n) reasons.Index u30

-- an index into a pool of n entries that count from 1, or 0, which names none of them
unfoldable pub pool_index : ℕ → Part ℕ
pool_index n = with_test (λ x. nat_le x n) reasons.Index u30

-- an index into a pool of n entries that count from 1; 0 is refused
unfoldable pub entry_index : ℕ → Part ℕ
entry_index n = with_test (λ x. nat_le 1 x && nat_le x n) reasons.Index u30
