-- Parts within an end, as code within its length (a tool of other definitions; profile: docs/FORMAT.md, "What is refused", for CodeEnds).
use Rattle.std.specs.Prelude.{◌≡◌, ℕ, zero, suc, ◌+◌, ◌-◌, ◌<◌, ◌≤◌, min, Bool, true, false, List, [], ◌∷◌, ◌++◌, length, Ok, Err, if◌then◌else◌}
use Rattle.std.specs.declared.result.Result.{Result}
use Rattle.abc_file_types.specs.declared.reason.Reason.{Reason}
use Rattle.abc_file_types.specs.declared.reason.Reason.TheVariants as reasons
use Rattle.abc_file_types.specs.Part.{At, Refusal, refusal, Part, Front, ◌>>=◌, known_value, then_by, image}

-- no byte past the next n is looked at
abbrev pub within_next : ℕ → At → At
within_next n from = record { place = from.place; bytes = from.bytes; end = min from.end (from.place + n) }

abbrev pub with_outer_end : {A : Type 0} → ℕ → Result (A × At) Refusal → Result (A × At) Refusal
with_outer_end end (Ok x) = Ok (x.0, record { place = x.1.place; bytes = x.1.bytes; end = end })
with_outer_end end (Err e) = Err e

-- the part, within the next n bytes
abbrev pub inside : {A : Type 0} → ℕ → Part A → Part A
inside n p = record {
  spells = λ x b. p.spells x b × (length b ≤ n);
  bad = λ from r. p.bad (within_next n from) r;
  reads = λ from. with_outer_end from.end (p.reads (within_next n from));
}

abbrev pub is_code_ends : Reason → Bool
is_code_ends reasons.CodeEnds = true
is_code_ends _ = false

-- the end is told at the first byte of the part
abbrev pub blame : ℕ → Refusal → Refusal
blame place e = if is_code_ends e.reason then refusal place reasons.CodeEnds else e

abbrev pub blamed_read : {A : Type 0} → ℕ → Result (A × At) Refusal → Result (A × At) Refusal
blamed_read place (Ok x) = Ok x
blamed_read place (Err e) = Err (blame place e)

-- the part, whose first byte is blamed where it needs a byte past the end
abbrev pub blame_first : {A : Type 0} → Part A → Part A
blame_first p = record {
  spells = p.spells;
  bad = λ from r. (e : Refusal) × p.bad from e × (r ≡ blame from.place e);
  reads = λ from. blamed_read from.place (p.reads from);
}

-- a value, with how many bytes spelled it
abbrev pub with_byte_count : {A : Type 0} → Part A → Part (A × ℕ)
with_byte_count p = record {
  spells = λ y b. p.spells y.0 b × (y.1 ≡ length b);
  bad = p.bad;
  reads = λ from. p.reads from >>= λ x. Ok ((x.0, x.1.place - from.place), x.1);
}

-- items of at least one byte that fill just n bytes, at most k of them
abbrev pub fill : {A : Type 0} → ℕ → ℕ → Part A → Part (List (A × ℕ))
fill k zero p = known_value []
fill zero (suc n) p = known_value []
fill (suc k) (suc n) p = image (λ x. x.0 ∷ x.1) (then_by (with_byte_count (inside (suc n) p)) (λ x. fill k (suc n - x.1) p))

-- ---- what it means that items fill bytes without a gap

-- The bytes are one piece after the other; each spells an item, which stands with the length of its piece.
abbrev pub Pieces : {A : Type 0} → Part A → List (A × ℕ) → List ℕ → Type 0
Pieces p [] b = b ≡ []
Pieces p (x ∷ xs) b = (b1 : List ℕ) × (b2 : List ℕ) × (b ≡ b1 ++ b2) × p.spells x.0 b1 × (x.1 ≡ length b1) × Pieces p xs b2

-- No value is spelled by nothing.
pub record IsNonEmpty {A : Type 0} (p : Part A) : Type 0 where
  pub some : (x : A) (b : List ℕ) → p.spells x b → 1 ≤ length b

-- After some pieces, before n bytes are full, no item can be read within the room that is left.
pub record BadPiece {A : Type 0} (n : ℕ) (p : Part A) (from : At) (r : Refusal) : Type 0 where
  pub before : List (A × ℕ)
  pub front : List ℕ
  pub after : At
  pub filled : Pieces p before front
  pub is : Front from front after
  pub room : length front < n
  pub bad : (inside (n - length front) p).bad after r
