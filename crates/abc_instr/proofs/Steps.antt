-- The instructions that a run goes over, each by its first bytes.
use Rattle.std.proofs.Common.{◌≡◌, ℕ, zero, suc, ℤ, pos, negsuc, ◌-ℤ◌, ◌*◌, ◌/◌, ◌%◌, ◌+◌, ◌-◌, ◌<◌, ◌≤◌, ◌^◌, inl, inr, Bool, true, false, List, [], ◌∷◌, ◌++◌, length, length-append, take, drop, get_or, map, Some, None, refl, sym, ap, subst, ◌∙◌, arith}
use Rattle.std.specs.Prelude.{nat_eq}
use Rattle.std.specs.declared.option.Option.{Option}
use Rattle.std.specs.Int.{w8, w16, cast_signed, cast_unsigned}
use Rattle.std.proofs.lemmas.Int.{ints, of_z-to_z}
use Rattle.std.proofs.lemmas.Bool.{cases_lt, le-ltb, lt-ltb}
use Rattle.std.proofs.lemmas.Bool.Decides.{nat_tests}
use Rattle.std.proofs.Math.Seq.{take-append_seam}
use Rattle.abc_base.specs.Numbers.{SpellsNumber, number_bytes, signed24}
use Rattle.abc_base.proofs.Spelling.{number_fits}
use Rattle.abc_file_types.specs.Numbers.{s24, u8, u32}
use Rattle.abc_file_types.specs.Canonical.{low24, s24_bytes}
use Rattle.abc_file_types.specs.declared.code.Instr.{Instr}
use Rattle.abc_file_types.specs.declared.code.Instr.TheVariants as instrs
use Rattle.abc_file_types.specs.declared.opcodes.Form.{Form}
use Rattle.abc_file_types.specs.declared.opcodes.Form.TheVariants as forms
use Rattle.abc_file_types.specs.Instructions.{Branch, Same, operand_parts, signed_byte, signed_short}
use Rattle.abc_file_types.specs.Opcodes.{form_at, info_at}
use Rattle.abc_file_types.proofs.CodeShortest.{piece_can}
use Rattle.abc_varint.proofs.Putting.{bytes_1, bytes_2}
use Rattle.abc_instr.specs.declared.raw.RawInstr.TheVariants as raws
use Rattle.abc_instr.specs.declared.run.Step.{Step}
use Rattle.abc_instr.specs.declared.run.TheConstants.{STEPS}
use Rattle.abc_instr.specs.Offsets.{has_targets}
use Rattle.abc_instr.specs.Runs.{IsCopied, IsPassed, step_at, step_of_form}
use Rattle.abc_instr.specs.Scanning.{raw_bytes}
use Rattle.abc_instr.proofs.Fronts.{all_after, offset_fits, small, spelled, taken_one}

-- ---- the table

abbrev counted : ℕ → ℕ → List ℕ
counted zero from = []
counted (suc n) from = from ∷ counted n (from + 1)

in_counted : {B : Type 0} (g : ℕ → B) (n from i : ℕ) (y : B) → i < n → get_or (map g (counted n from)) i y ≡ g (from + i)
in_counted g zero from i y h = absurd (omega arith)
in_counted g (suc n) from zero y h = let e : from ≡ from + 0 = omega arith in ap g e
in_counted g (suc n) from (suc i) y h = let e : (from + 1) + i ≡ from + suc i = omega arith in in_counted g n (from + 1) i y (omega arith) ∙ ap g e

-- what is the same in each row is the same at each opcode
at_each : {B : Type 0} (g : ℕ → B) (rows : List B) (op : ℕ) (d : B) → rows ≡ map g (counted 256 0) → op < 256 → get_or rows op d ≡ g op
at_each {B = B} g rows op d same h = let e : 0 + op ≡ op = omega arith in ap (λ (l : List B). get_or l op d) same ∙ in_counted g 256 0 op d h ∙ ap g e

same_steps : STEPS ≡ map step_at (counted 256 0)
unfolding form_at info_at
same_steps = refl

pub step_is : (op : ℕ) (d : Step) → op < 256 → get_or STEPS op d ≡ step_at op
step_is op d h = at_each step_at STEPS op d same_steps h

-- the one opcode of a form that has one
abbrev is_only : Option Form → ℕ → Bool
is_only (Some forms.Byte) op = nat_eq op 0x24
is_only (Some forms.Short) op = nat_eq op 0x25
is_only (Some forms.ScopeObject) op = nat_eq op 0x65
is_only _ op = true

abbrev passes : ℕ → Bool
passes op = true

abbrev is_only_at : ℕ → Bool
is_only_at op = is_only (form_at op) op

all_only : map passes (counted 256 0) ≡ map is_only_at (counted 256 0)
unfolding form_at info_at
all_only = refl

only : (op : ℕ) → op < 256 → is_only (form_at op) op ≡ true
only op h = sym (at_each is_only_at (map passes (counted 256 0)) op true all_only h) ∙ in_counted passes 256 0 op true h

number_is : (op n : ℕ) → nat_eq op n ≡ true → op ≡ n
number_is op n h = grind (arith, nat_tests)

-- ---- numbers of one byte and of two

record IsShort (n : ℕ) (b : List ℕ) : Type 0 where
  spells : SpellsNumber n b
  bytes : b ≡ number_bytes n
  bound : n < 2 ^ 14

of_bytes : (n : ℕ) (b : List ℕ) → n < 2 ^ 14 → b ≡ number_bytes n → IsShort n b
of_bytes n b bound bytes = record { spells = subst (SpellsNumber n) (sym bytes) (number_fits n (omega arith)); bytes = bytes; bound = bound }

of_one : (a : ℕ) → a < 128 → IsShort a (a ∷ [])
of_one a lt = of_bytes a (a ∷ []) (omega arith) (sym (bytes_1 a lt))

of_two : (a b n : ℕ) → n ≡ a % 128 + 128 * b → 128 ≤ a → a < 256 → 0 < b → b < 128 → IsShort n (a ∷ b ∷ [])
of_two a b n e low high some lt =
    let more : 128 ≤ n = omega arith in
    let rest : b ≡ n / 128 = omega arith in
    let first : n % 128 + 128 ≡ a = omega arith in
    of_bytes n (a ∷ b ∷ []) (omega arith) (sym (bytes_2 n b more rest lt ∙ ap (λ (x : ℕ). x ∷ b ∷ []) first))

-- ---- an instruction without targets, by its form

passed : (op : ℕ) (form : Form) (i : Instr) (b rest : List ℕ) → form_at op ≡ Some form → has_targets i ≡ false → (operand_parts op form).spells (Same i) b → op ∷ b ≡ raw_bytes (raws.Same i)
    → IsPassed (1 + length b) (op ∷ (b ++ rest))
passed op form i b rest e none s bytes =
    let front : take (1 + length b) (op ∷ (b ++ rest)) ≡ op ∷ b = taken_one (length b) op (b ++ rest) ∙ ap (λ (l : List ℕ). op ∷ l) (take-append_seam b rest) in
    let spells = spelled op form (Same i) b e s in
    let can = piece_can [] 0 0 (Same i) (op ∷ b) i spells refl in
    record {
      instr = raws.Same i;
      copied = record {
        spelled = record {
          spells = rw front spells;
          raw = (can.0, none);
          some = omega arith;
          short = omega (arith, can.1);
          within = omega (arith, length-append b rest);
        };
        shortest = front ∙ bytes;
      };
      plain = refl;
    }

plain : (op : ℕ) (rest : List ℕ) → form_at op ≡ Some forms.Plain → IsPassed 1 (op ∷ rest)
plain op rest e = passed op forms.Plain (instrs.Plain op) [] rest e refl (refl, refl) refl

one : (op n : ℕ) (b rest : List ℕ) → form_at op ≡ Some forms.One → IsShort n b → IsPassed (1 + length b) (op ∷ (b ++ rest))
one op n b rest e is = passed op forms.One (instrs.One op n) b rest e refl (n, small n b is.spells (omega (arith, is.bound)), refl) (ap (λ (l : List ℕ). op ∷ l) is.bytes)

two : (op n m : ℕ) (b c rest : List ℕ) → form_at op ≡ Some forms.Two → IsShort n b → IsShort m c → IsPassed (1 + length (b ++ c)) (op ∷ ((b ++ c) ++ rest))
two op n m b c rest e is more =
    passed op forms.Two (instrs.Two op n m) (b ++ c) rest e refl
    ((n, m), (b, c, refl, small n b is.spells (omega (arith, is.bound)), small m c more.spells (omega (arith, more.bound))), refl) (λ t. op ∷ (is.bytes t ++ more.bytes t))

byte : (op x : ℕ) (rest : List ℕ) → op < 256 → x < 256 → form_at op ≡ Some forms.Byte → IsPassed 2 (op ∷ x ∷ rest)
unfolding signed_byte u8
byte op x rest lt small e =
    let z = cast_signed w8 x in
    let is : op ≡ 0x24 = number_is op 0x24 (rw e at (only op lt)) in
    let same : z ≡ cast_signed w8 (x % 256) = let e : x ≡ x % 256 = omega arith in ap (cast_signed w8) e in
    let again : x ≡ cast_unsigned w8 z = sym (of_z-to_z w8 x (omega arith)) in
    passed op forms.Byte (instrs.Byte z) (x ∷ []) rest e refl (z, (x, refl, same), refl) (λ t. is t ∷ again t ∷ [])

scope_object : (op x : ℕ) (rest : List ℕ) → op < 256 → form_at op ≡ Some forms.ScopeObject → IsPassed 2 (op ∷ x ∷ rest)
unfolding u8
scope_object op x rest lt e =
    let is : op ≡ 0x65 = number_is op 0x65 (rw e at (only op lt)) in
    passed op forms.ScopeObject (instrs.ScopeObject x) (x ∷ []) rest e refl (x, refl, refl) (ap (λ (o : ℕ). o ∷ x ∷ []) is)

short : (op n : ℕ) (b rest : List ℕ) → op < 256 → form_at op ≡ Some forms.Short → IsShort n b → IsPassed (1 + length b) (op ∷ (b ++ rest))
unfolding signed_short u32
short op n b rest lt e is =
    let z = cast_signed w16 n in
    let code : op ≡ 0x25 = number_is op 0x25 (rw e at (only op lt)) in
    let same : z ≡ cast_signed w16 (n % 65536) = let e : n ≡ n % 65536 = omega (arith, is.bound) in ap (cast_signed w16) e in
    let again : n ≡ cast_unsigned w16 z = sym (of_z-to_z w16 n (omega (arith, is.bound))) in
    let wide : n ≡ n % 2 ^ 32 = omega (arith, is.bound) in
    passed op forms.Short (instrs.Short z) b rest e refl (z, (n, (n, is.spells, wide), same), refl) (λ t. code t ∷ (is.bytes ∙ ap number_bytes again) t)

-- ---- by the table

-- where the bytes stand below the bounds of the step
pub quick : (form : Option Form) (bytes : List ℕ) → 4 ≤ length bytes → get_or bytes 0 0 < 256 → get_or bytes 1 0 < 256 → form_at (get_or bytes 0 0) ≡ form
    → get_or bytes 1 0 < (step_of_form form).first → get_or bytes 2 0 < (step_of_form form).second → IsPassed (step_of_form form).len bytes
quick form [] len small small2 e lt lt2 = absurd (omega arith)
quick form (op ∷ []) len small small2 e lt lt2 = absurd (omega arith)
quick form (op ∷ a ∷ []) len small small2 e lt lt2 = absurd (omega arith)
quick (Some forms.Plain) (op ∷ a ∷ b ∷ rest) len small small2 e lt lt2 = plain op (a ∷ b ∷ rest) e
quick (Some forms.One) (op ∷ a ∷ b ∷ rest) len small small2 e lt lt2 = one op a (a ∷ []) (b ∷ rest) e (of_one a lt)
quick (Some forms.Two) (op ∷ a ∷ b ∷ rest) len small small2 e lt lt2 = two op a b (a ∷ []) (b ∷ []) rest e (of_one a lt) (of_one b lt2)
quick (Some forms.Branch) (op ∷ a ∷ b ∷ rest) len small small2 e lt lt2 = absurd (omega arith)
quick (Some forms.Switch) (op ∷ a ∷ b ∷ rest) len small small2 e lt lt2 = absurd (omega arith)
quick (Some forms.Byte) (op ∷ a ∷ b ∷ rest) len small small2 e lt lt2 = byte op a (b ∷ rest) small small2 e
quick (Some forms.Short) (op ∷ a ∷ b ∷ rest) len small small2 e lt lt2 = short op a (a ∷ []) (b ∷ rest) small e (of_one a lt)
quick (Some forms.ScopeObject) (op ∷ a ∷ b ∷ rest) len small small2 e lt lt2 = scope_object op a (b ∷ rest) small e
quick (Some forms.Debug) (op ∷ a ∷ b ∷ rest) len small small2 e lt lt2 = absurd (omega arith)
quick None (op ∷ a ∷ b ∷ rest) len small small2 e lt lt2 = absurd (omega arith)

at_least : (a k : ℕ) → (a < k → ⊥) → k ≤ a
at_least a k never = elim (cases_lt a k) [ inl lt ↦ absurd (never lt) | inr ge ↦ ge ]

-- where they don't, and the first number has two bytes
pub longer_one : (form : Option Form) (bytes : List ℕ) → 4 ≤ length bytes → get_or bytes 0 0 < 256 → get_or bytes 1 0 < 256 → form_at (get_or bytes 0 0) ≡ form
    → ((get_or bytes 1 0 < (step_of_form form).first) × (get_or bytes 2 0 < (step_of_form form).second) → ⊥) → (step_of_form form).len ≡ 2 → 0 < get_or bytes 2 0 → get_or bytes 2 0 < 128 → IsPassed 3 bytes
longer_one form [] len small small2 e not two_bytes some lt = absurd (omega arith)
longer_one form (op ∷ []) len small small2 e not two_bytes some lt = absurd (omega arith)
longer_one form (op ∷ a ∷ []) len small small2 e not two_bytes some lt = absurd (omega arith)
longer_one (Some forms.Plain) (op ∷ a ∷ b ∷ rest) len small small2 e not two_bytes some lt = absurd (omega arith)
longer_one (Some forms.One) (op ∷ a ∷ b ∷ rest) len small small2 e not two_bytes some lt =
    one op (a % 128 + 128 * b) (a ∷ b ∷ []) rest e (of_two a b (a % 128 + 128 * b) refl (at_least a 128 (λ h. not (h, omega arith))) small2 some lt)
longer_one (Some forms.Two) (op ∷ a ∷ b ∷ rest) len small small2 e not two_bytes some lt = absurd (omega arith)
longer_one (Some forms.Branch) (op ∷ a ∷ b ∷ rest) len small small2 e not two_bytes some lt = absurd (omega arith)
longer_one (Some forms.Switch) (op ∷ a ∷ b ∷ rest) len small small2 e not two_bytes some lt = absurd (omega arith)
longer_one (Some forms.Byte) (op ∷ a ∷ b ∷ rest) len small small2 e not two_bytes some lt = absurd (not (small2, omega arith))
longer_one (Some forms.Short) (op ∷ a ∷ b ∷ rest) len small small2 e not two_bytes some lt =
    short op (a % 128 + 128 * b) (a ∷ b ∷ []) rest small e (of_two a b (a % 128 + 128 * b) refl (at_least a 128 (λ h. not (h, omega arith))) small2 some lt)
longer_one (Some forms.ScopeObject) (op ∷ a ∷ b ∷ rest) len small small2 e not two_bytes some lt = absurd (not (small2, omega arith))
longer_one (Some forms.Debug) (op ∷ a ∷ b ∷ rest) len small small2 e not two_bytes some lt = absurd (omega arith)
longer_one None (op ∷ a ∷ b ∷ rest) len small small2 e not two_bytes some lt = absurd (omega arith)

pub longer_two : (form : Option Form) (bytes : List ℕ) → 4 ≤ length bytes → get_or bytes 1 0 < 256 → form_at (get_or bytes 0 0) ≡ form
    → ((get_or bytes 1 0 < (step_of_form form).first) × (get_or bytes 2 0 < (step_of_form form).second) → ⊥) → (step_of_form form).len ≡ 3 → 0 < get_or bytes 2 0 → get_or bytes 2 0 < 128 → get_or bytes 3 0 < 128
    → IsPassed 4 bytes
longer_two form [] len small e not three_bytes some lt lt2 = absurd (omega arith)
longer_two form (op ∷ []) len small e not three_bytes some lt lt2 = absurd (omega arith)
longer_two form (op ∷ a ∷ []) len small e not three_bytes some lt lt2 = absurd (omega arith)
longer_two form (op ∷ a ∷ b ∷ []) len small e not three_bytes some lt lt2 = absurd (omega arith)
longer_two (Some forms.Plain) (op ∷ a ∷ b ∷ c ∷ rest) len small e not three_bytes some lt lt2 = absurd (omega arith)
longer_two (Some forms.One) (op ∷ a ∷ b ∷ c ∷ rest) len small e not three_bytes some lt lt2 = absurd (omega arith)
longer_two (Some forms.Two) (op ∷ a ∷ b ∷ c ∷ rest) len small e not three_bytes some lt lt2 =
    two op (a % 128 + 128 * b) c (a ∷ b ∷ []) (c ∷ []) rest e (of_two a b (a % 128 + 128 * b) refl (at_least a 128 (λ h. not (h, lt))) small some lt) (of_one c lt2)
longer_two (Some forms.Branch) (op ∷ a ∷ b ∷ c ∷ rest) len small e not three_bytes some lt lt2 = absurd (omega arith)
longer_two (Some forms.Switch) (op ∷ a ∷ b ∷ c ∷ rest) len small e not three_bytes some lt lt2 = absurd (omega arith)
longer_two (Some forms.Byte) (op ∷ a ∷ b ∷ c ∷ rest) len small e not three_bytes some lt lt2 = absurd (omega arith)
longer_two (Some forms.Short) (op ∷ a ∷ b ∷ c ∷ rest) len small e not three_bytes some lt lt2 = absurd (omega arith)
longer_two (Some forms.ScopeObject) (op ∷ a ∷ b ∷ c ∷ rest) len small e not three_bytes some lt lt2 = absurd (omega arith)
longer_two (Some forms.Debug) (op ∷ a ∷ b ∷ c ∷ rest) len small e not three_bytes some lt lt2 = absurd (omega arith)
longer_two None (op ∷ a ∷ b ∷ c ∷ rest) len small e not three_bytes some lt lt2 = absurd (omega arith)

-- ---- a branch

low24_is : (z : ℤ) (v : ℕ) → v < 2 ^ 24 → z ≡ signed24 v → low24 z ≡ v
low24_is (pos n) v lt e =
    elim (cases_lt v (2 ^ 23)) [
      | inl low ↦ let same : pos n ≡ pos v = rw (lt-ltb v (2 ^ 23) low) at e in omega (arith, ints, same)
      | inr high ↦ let same : pos n ≡ pos v -ℤ pos (2 ^ 24) = rw (le-ltb v (2 ^ 23) high) at e in omega (arith, ints, same)
    ]
low24_is (negsuc n) v lt e =
    elim (cases_lt v (2 ^ 23)) [
      | inl low ↦ let same : negsuc n ≡ pos v = rw (lt-ltb v (2 ^ 23) low) at e in absurd (omega (arith, ints, same))
      | inr high ↦ let same : negsuc n ≡ pos v -ℤ pos (2 ^ 24) = rw (le-ltb v (2 ^ 23) high) at e in omega (arith, ints, same)
    ]

-- three bytes are what their offset is spelled by
three : (z : ℤ) (a b c : ℕ) → a < 256 → b < 256 → c < 256 → s24.spells z (a ∷ b ∷ c ∷ []) → a ∷ b ∷ c ∷ [] ≡ s24_bytes z
unfolding s24 s24_bytes u8
three z a b c la lb lc s =
    let t = s.1 in
    let u = t.4 in
    let rest : t.1 ≡ s.0.1.0 ∷ s.0.1.1 ∷ [] = u.2 ∙ (λ i. u.3 i ++ u.4 i) in
    let is : a ∷ b ∷ c ∷ [] ≡ s.0.0 ∷ s.0.1.0 ∷ s.0.1.1 ∷ [] = t.2 ∙ (λ i. t.3 i ++ rest i) in
    let a_is : a ≡ s.0.0 = cc in
    let b_is : b ≡ s.0.1.0 = cc in
    let c_is : c ≡ s.0.1.1 = cc in
    let low : low24 z ≡ s.0.0 % 256 + 256 * (s.0.1.0 % 256) + 65536 * (s.0.1.1 % 256) = low24_is z (s.0.0 % 256 + 256 * (s.0.1.0 % 256) + 65536 * (s.0.1.1 % 256)) (omega arith) s.2 in
    let first : a ≡ low24 z % 256 = omega (arith, low) in
    let second : b ≡ low24 z / 256 % 256 = omega (arith, low) in
    let third : c ≡ low24 z / 65536 = omega (arith, low) in
    λ i. first i ∷ second i ∷ third i ∷ []

pub branch : (bytes : List ℕ) (z : ℤ) → 4 ≤ length bytes → get_or bytes 1 0 < 256 → get_or bytes 2 0 < 256 → get_or bytes 3 0 < 256 → form_at (get_or bytes 0 0) ≡ Some forms.Branch
    → s24.spells z (take 3 (take (length bytes - 1) (drop 1 bytes))) → IsCopied (raws.Branch (get_or bytes 0 0) z) 4 bytes
branch [] z len s1 s2 s3 e s = absurd (omega arith)
branch (op ∷ []) z len s1 s2 s3 e s = absurd (omega arith)
branch (op ∷ a ∷ []) z len s1 s2 s3 e s = absurd (omega arith)
branch (op ∷ a ∷ b ∷ []) z len s1 s2 s3 e s = absurd (omega arith)
branch (op ∷ a ∷ b ∷ c ∷ rest) z len s1 s2 s3 e s =
    let spells : s24.spells z (a ∷ b ∷ c ∷ []) = all_after s24.spells 1 3 z (op ∷ a ∷ b ∷ c ∷ rest) s in
    record {
      spelled = record {
        spells = spelled op forms.Branch (Branch op z) (a ∷ b ∷ c ∷ []) e (z, spells, refl);
        raw = (e, offset_fits z (a ∷ b ∷ c ∷ []) spells);
        some = omega arith;
        short = omega arith;
        within = omega arith;
      };
      shortest = ap (λ (l : List ℕ). op ∷ l) (three z a b c s1 s2 s3 spells);
    }
