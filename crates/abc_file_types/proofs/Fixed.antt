-- Canonical bytes of numbers of a fixed length; texts.
use Rattle.std.proofs.Common.{◌≡◌, ℕ, ℤ, pos, negsuc, ◌+◌, ◌*◌, ◌%◌, ◌/◌, ◌^◌, ◌<◌, inl, inr, List, [], ◌∷◌, ◌++◌, length, refl, sym, ap, subst, length-append, arith}
use Rattle.std.specs.Prelude.{◌-ℤ◌}
use Rattle.std.specs.List.{flat_map}
use Rattle.std.proofs.lemmas.List.Concat.{flat_map-cons}
use Rattle.std.proofs.lemmas.Int.{ints}
use Rattle.std.proofs.lemmas.Bool.{cases_lt, le-ltb, lt-ltb}
use Rattle.abc_base.specs.Numbers.{number_bytes, signed24}
use Rattle.abc_file_types.specs.Canonical.{FitsS24, IsCanonical, NoGreater, counted_bytes, low24, s24_bytes, text_bytes, u16_bytes}
use Rattle.abc_file_types.specs.Law.{Exact}
use Rattle.abc_file_types.specs.Lists.{bytes_with_count}
use Rattle.abc_file_types.specs.Numbers.{s24, u16, u8}
use Rattle.abc_file_types.proofs.Canon.{counted-canonical, s24_fits, s24_length, s24_three, same-canonical, u8-canonical}
use Rattle.abc_file_types.proofs.Numbers.{counted-exact, u8-exact}

-- ---- 16 bits

u16_two : (x : ℕ) (b : List ℕ) → u16.spells x b → (x < 2 ^ 16) × (length b ≡ 2)
unfolding u16 u8
u16_two x b s =
    let t = s.1 in
    (omega (arith, s.2), omega (arith, ap length t.2, length-append t.0 t.1, ap length t.3, ap length t.4))

pub u16_fits : (x : ℕ) → x < 2 ^ 16 → u16.spells x (u16_bytes x)
unfolding u16 u16_bytes u8
u16_fits x lt =
    let sum : x ≡ x % 256 % 256 + 256 * (x / 256 % 256) = omega arith in
    ((x % 256, x / 256), (x % 256 ∷ [], x / 256 ∷ [], refl, refl, refl), sum)

pub u16_length : (x : ℕ) → length (u16_bytes x) ≡ 2
unfolding u16_bytes
u16_length x = refl

u16_least : (x : ℕ) (b : List ℕ) → u16.spells x b → NoGreater (u16_bytes x) b
unfolding u16 u16_bytes u8
u16_least x b s =
    let t = s.1 in
    let is : b ≡ s.0.0 ∷ s.0.1 ∷ [] = rw (t.2, t.3, t.4) refl in
    rw is (omega (arith, s.2), (omega (arith, s.2), tt))

pub u16-canonical : IsCanonical u16 u16_bytes
u16-canonical = record {
  spelled = λ x b s. u16_fits x (u16_two x b s).0;
  shortest = λ x b s. omega (arith, u16_length x, (u16_two x b s).1);
  least = λ x b s len. u16_least x b s;
}

-- ---- 24 bits

signed24_fits : (x : ℕ) → x < 2 ^ 24 → FitsS24 (signed24 x)
signed24_fits x lt =
    elim (cases_lt x (2 ^ 23)) [
      | inl low ↦ rw (lt-ltb x (2 ^ 23) low) (omega (arith, ints), omega (arith, ints))
      | inr high ↦ rw (le-ltb x (2 ^ 23) high) (omega (arith, ints), omega (arith, ints))
    ]

s24_small : (z : ℤ) (b : List ℕ) → s24.spells z b → FitsS24 z
unfolding s24
s24_small z b s = subst FitsS24 (sym s.2) (signed24_fits (s.0.0 % 256 + 256 * (s.0.1.0 % 256) + 65536 * (s.0.1.1 % 256)) (omega arith))

low24_is : (z : ℤ) (v : ℕ) → v < 2 ^ 24 → z ≡ signed24 v → low24 z ≡ v
low24_is (pos n) v lt e =
    elim (cases_lt v (2 ^ 23)) [
      | inl low ↦ let same : pos n ≡ pos v = rw (lt-ltb v (2 ^ 23) low) at e in omega (arith, ints, same)
      | inr high ↦ let same : pos n ≡ pos v -ℤ pos (2 ^ 24) = rw (le-ltb v (2 ^ 23) high) at e in omega (arith, ints, same)
    ]
low24_is (negsuc n) v lt e =
    elim (cases_lt v (2 ^ 23)) [
      | inl low ↦ let same : negsuc n ≡ pos v = rw (lt-ltb v (2 ^ 23) low) at e in absurd (omega (arith, ints, same))
      | inr high ↦ let same : negsuc n ≡ pos v -ℤ pos (2 ^ 24) = rw (le-ltb v (2 ^ 23) high) at e in omega (arith, ints, same)
    ]

s24_least : (z : ℤ) (b : List ℕ) → s24.spells z b → NoGreater (s24_bytes z) b
unfolding s24 s24_bytes u8
s24_least z b s =
    let t = s.1 in
    let u = t.4 in
    let is : b ≡ s.0.0 ∷ s.0.1.0 ∷ s.0.1.1 ∷ [] = rw (t.2, t.3, u.2, u.3, u.4) refl in
    let low : low24 z ≡ s.0.0 % 256 + 256 * (s.0.1.0 % 256) + 65536 * (s.0.1.1 % 256) = low24_is z (s.0.0 % 256 + 256 * (s.0.1.0 % 256) + 65536 * (s.0.1.1 % 256)) (omega arith) s.2 in
    rw is (omega (arith, low), (omega (arith, low), (omega (arith, low), tt)))

pub s24-canonical : IsCanonical s24 s24_bytes
s24-canonical = record {
  spelled = λ z b s. s24_fits z (s24_small z b s);
  shortest = λ z b s. omega (arith, s24_length z, s24_three z b s);
  least = λ z b s len. s24_least z b s;
}

-- ---- texts

pub each_byte : (b : List ℕ) → flat_map (λ x. x ∷ []) b ≡ b
each_byte [] = refl
each_byte (x ∷ b) = rw flat_map-cons (ap (λ (t : List ℕ). x ∷ t) (each_byte b))

pub text-exact : Exact bytes_with_count
unfolding bytes_with_count
text-exact = counted-exact u8 u8-exact

pub text-canonical : IsCanonical bytes_with_count text_bytes
unfolding bytes_with_count text_bytes counted_bytes
text-canonical = same-canonical _ (counted_bytes (λ x. x ∷ [])) _ (λ b. ap (λ (t : List ℕ). number_bytes (length b) ++ t) (each_byte b)) (counted-canonical u8 (λ x. x ∷ []) u8-canonical)
