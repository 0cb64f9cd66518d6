-- Bytes of which none is greater than others in their places.
use Rattle.std.proofs.Common.{◌≡◌, ℕ, zero, suc, ◌+◌, ◌*◌, ◌%◌, ◌/◌, ◌^◌, ◌<◌, ◌≤◌, inl, inr, List, [], ◌∷◌, ◌++◌, length, refl, ap, length-append, arith}
use Rattle.std.proofs.lemmas.Bool.{cases_lt, le-ltb, lt-ltb}
use Rattle.abc_base.specs.Numbers.{SpellsNumber, groups_of, number_bytes}
use Rattle.abc_base.proofs.Spelling.{IsGroups, number_groups, number_value, raw}
use Rattle.abc_file_types.specs.Canonical.{NoGreater}

pub no_greater_refl : (b : List ℕ) → NoGreater b b
no_greater_refl [] = tt
no_greater_refl (x ∷ b) = (omega arith, no_greater_refl b)

pub no_greater_append : (a b c d : List ℕ) → NoGreater a c → NoGreater b d → NoGreater (a ++ b) (c ++ d)
no_greater_append [] b [] d h k = k
no_greater_append [] b (y ∷ c) d h k = absurd h
no_greater_append (x ∷ a) b [] d h k = absurd h
no_greater_append (x ∷ a) b (y ∷ c) d h k = (h.0, no_greater_append a b c d h.1 k)

-- two lists that are each the lesser are one
pub no_greater_same : (b c : List ℕ) → NoGreater b c → NoGreater c b → b ≡ c
no_greater_same [] [] h k = refl
no_greater_same [] (y ∷ c) h k = absurd h
no_greater_same (x ∷ b) [] h k = absurd h
no_greater_same (x ∷ b) (y ∷ c) h k =
    let e : x ≡ y = omega (arith, h.0, k.0) in
    rw (e, no_greater_same b c h.1 k.1) refl

-- of two halves, neither of which is longer, and which are as long together
pub halves : (a b c d : List ℕ) → length a ≤ length c → length b ≤ length d → length (a ++ b) ≡ length (c ++ d) → (length a ≡ length c) × (length b ≡ length d)
halves a b c d one two e = (omega (arith, length-append a b, length-append c d), omega (arith, length-append a b, length-append c d))

-- ---- numbers

-- each of the k lowest groups of seven bits is at most that of the other number
abbrev pub Under : ℕ → ℕ → ℕ → Type 0
Under zero y x = Unit {0}
Under (suc k) y x = (y % 128 ≤ x % 128) × Under k (y / 128) (x / 128)

pub under_same : (k x : ℕ) → Under k x x
under_same zero x = tt
under_same (suc k) x = (omega arith, under_same k (x / 128))

pub under_32 : (x : ℕ) → Under 5 (x % 2 ^ 32) x
under_32 x = (omega arith, (omega arith, (omega arith, (omega arith, (omega arith, tt)))))

pub under_16 : (x : ℕ) → Under 5 (x % 65536) x
under_16 x = (omega arith, (omega arith, (omega arith, (omega arith, (omega arith, tt)))))

groups_least : (k y x : ℕ) (b : List ℕ) → IsGroups b → x ≡ raw b → y ≤ x → Under k y x → length (groups_of k y) ≡ length b → NoGreater (groups_of k y) b
groups_least k y x [] g is le u len = absurd g
groups_least zero y x (c ∷ bs) g is le u len = absurd (omega arith)
groups_least (suc k) y x (c ∷ []) g is le u len =
    let low : y < 128 = omega (arith, is) in
    let e : groups_of (suc k) y ≡ y ∷ [] = rw (lt-ltb y 128 low) refl in
    rw e (omega (arith, is, u.0), tt)
groups_least (suc k) y x (c ∷ d ∷ bs) g is le u len =
    elim (cases_lt y 128) [
      | inl low ↦
          let e : groups_of (suc k) y ≡ y ∷ [] = rw (lt-ltb y 128 low) refl in
          absurd (omega (arith, ap length e))
      | inr high ↦
          let e : groups_of (suc k) y ≡ (y % 128 + 128) ∷ groups_of k (y / 128) = rw (le-ltb y 128 high) refl in
          let rest : x / 128 ≡ raw (d ∷ bs) = omega (arith, is) in
          let more = groups_least k (y / 128) (x / 128) (d ∷ bs) g.1 rest (omega (arith, le)) u.1 (omega (arith, ap length e, len)) in
          rw e (omega (arith, is, u.0, g.0), more)
    ]

-- the fewest bytes of a number whose groups are at most those that were spelled
pub number_least : (x y : ℕ) (b : List ℕ) → SpellsNumber x b → y ≤ x → Under 5 y x → length (number_bytes y) ≡ length b → NoGreater (number_bytes y) b
unfolding number_bytes
number_least x y b s le u len = groups_least 5 y x b (number_groups x b s) (number_value x b s) le u len
