-- Where the starts of canonical code come to take one byte more.
use Rattle.std.proofs.Common.{◌≡◌, ℕ, zero, suc, ◌+◌, ◌-◌, ◌^◌, ◌<◌, ◌≤◌, min, List, [], ◌∷◌, length, get_or, ap, ◌∙◌, add-one, arith}
use Rattle.std.proofs.Math.ListN.{get_or-eq_default}
use Rattle.abc_base.proofs.Spelling.{length_1, length_2, length_3, length_4}
use Rattle.abc_file_types.specs.declared.code.Instr.{Instr}
use Rattle.abc_file_types.specs.CodeBytes.{canonical_starts, code_len, instr_len, number_len, with_lengths}
use Rattle.abc_file_types.specs.Starts.{size, start}
use Rattle.abc_file_types.proofs.Lengths.{canonical_count, number_five}
use Rattle.abc_file_types.proofs.Meaning.{starts_from}
use Rattle.abc_file_types.proofs.Resolving.{length-starts}
use Rattle.abc_tables.specs.declared.body_lengths.Widths.{Widths}
use Rattle.abc_tables.specs.Lengths.{place_len}
use Rattle.abc_tables.specs.StartWidths.{AreWidths, IsFirstFrom}

-- ---- starts

start_at : (code : List Instr) (t : ℕ) → t ≤ length code → get_or (canonical_starts code) t 0 ≡ start (with_lengths code) t
unfolding canonical_starts
start_at code t le = starts_from (with_lengths code) t (omega (arith, canonical_count code, length-starts 0 (with_lengths code)))

start_grows : {A : Type 0} (ps : List (A × ℕ)) (t u : ℕ) → t ≤ u → start ps t ≤ start ps u
start_grows ps zero u le = omega arith
start_grows ps (suc t) zero le = absurd (omega arith)
start_grows [] (suc t) (suc u) le = omega arith
start_grows (p ∷ ps) (suc t) (suc u) le = omega (arith, start_grows ps t u (omega arith))

next_start : (code : List Instr) (i : ℕ) (x : Instr) → i < length code → x ≡ get_or code i x → start (with_lengths code) (suc i) ≡ start (with_lengths code) i + instr_len x
next_start [] i x lt e = absurd (omega arith)
next_start (y ∷ code) zero x lt e = omega (arith, ap instr_len e)
next_start (y ∷ code) (suc i) x lt e = omega (arith, next_start code i x (omega arith) e)

-- ---- a walk that stops at the first place from the limit on

pub stopped : (code : List Instr) (limit i here : ℕ) → limit < 2 ^ 32 → here ≡ min (start (with_lengths code) i) (2 ^ 64 - 1) → ((t : ℕ) → t < i → start (with_lengths code) t < limit) → limit ≤ here → IsFirstFrom code limit i
stopped code limit i here small is before le = record {
  from = λ t within after. omega (arith, start_grows (with_lengths code) i t after);
  before = λ t within lt. before t lt;
}

-- all starts are before a limit that the code does not come to
start_most : {A : Type 0} (ps : List (A × ℕ)) (t : ℕ) → start ps t ≤ size ps
start_most ps zero = omega arith
start_most [] (suc t) = omega arith
start_most (p ∷ ps) (suc t) = omega (arith, start_most ps t)

pub none_from : (code : List Instr) (limit len none : ℕ) → len ≡ min (code_len code) (2 ^ 64 - 1) → len < limit → limit < 2 ^ 64 → none ≡ length code + 1 → IsFirstFrom code limit none
none_from code limit len none is lt small e = record {
  from = λ t within after. absurd (omega arith);
  before = λ t within l. omega (arith, start_most (with_lengths code) t);
}

pub passed : (code : List Instr) (i here : ℕ) (x : Instr) → i < length code → x ≡ get_or code i x → here ≡ min (start (with_lengths code) i) (2 ^ 64 - 1) → min (here + min (instr_len x) (2 ^ 64 - 1)) (2 ^ 64 - 1) ≡ min (start (with_lengths code) (i + 1)) (2 ^ 64 - 1)
passed code i here x lt e is = rw add-one (omega (arith, next_start code i x lt e))

-- ---- the bytes of a start

module _ (code : List Instr) (s : Widths) (widths : AreWidths code s) (t : ℕ) where
  pub past : length code < t → place_len (canonical_starts code) t ≡ 1
  past more = ap number_len (get_or-eq_default (canonical_starts code) 0 (omega (arith, canonical_count code))) ∙ length_1 0 (omega arith)

  at : t ≤ length code → place_len (canonical_starts code) t ≡ number_len (start (with_lengths code) t)
  at le = ap number_len (start_at code t le)

  pub one : t ≤ length code → t < s.two → place_len (canonical_starts code) t ≡ 1
  one le lt = at le ∙ length_1 (start (with_lengths code) t) (widths.two.before t le lt)

  pub two : t ≤ length code → s.two ≤ t → t < s.three → place_len (canonical_starts code) t ≡ 2
  two le ge lt = at le ∙ length_2 (start (with_lengths code) t) (widths.two.from t le ge) (widths.three.before t le lt)

  pub three : t ≤ length code → s.three ≤ t → t < s.four → place_len (canonical_starts code) t ≡ 3
  three le ge lt = at le ∙ length_3 (start (with_lengths code) t) (widths.three.from t le ge) (widths.four.before t le lt)

  pub four : t ≤ length code → s.four ≤ t → t < s.five → place_len (canonical_starts code) t ≡ 4
  four le ge lt = at le ∙ length_4 (start (with_lengths code) t) (widths.four.from t le ge) (widths.five.before t le lt)

  pub five : t ≤ length code → s.five ≤ t → place_len (canonical_starts code) t ≡ 5
  five le ge = at le ∙ number_five (start (with_lengths code) t) (widths.five.from t le ge)
