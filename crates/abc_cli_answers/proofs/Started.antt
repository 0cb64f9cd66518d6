-- The starts of instructions, one after the other, and how long a file is that fits.
use Rattle.std.proofs.Common.{◌≡◌, ℕ, ◌+◌, ◌-◌, ◌^◌, ◌<◌, ◌≤◌, min, List, [], ◌∷◌, ◌++◌, drop, get_or, length, refl, sym, ap, ◌∙◌, append_assoc, arith}
use Rattle.std.proofs.lemmas.List.{drop_all}
use Rattle.abc_tables.specs.Lengths.{file_len}
use Rattle.abc_file_types.specs.declared.code.Instr.{Instr}
use Rattle.abc_file_types.specs.declared.tables.Abc.{Abc}
use Rattle.abc_file_types.specs.CodeBytes.{canonical_starts, code_len, instr_len, with_lengths}
use Rattle.abc_file_types.specs.Files.{Fits, file_bytes}
use Rattle.abc_file_types.specs.Starts.{starts}
use Rattle.abc_file_types.proofs.Resolving.{drop_read}
use Rattle.abc_file_types.proofs.Whole.{canonical_file}

-- after i instructions, the starts so far, and where the next one starts
pub record SoFar (code : List Instr) (i here : ℕ) (front : List ℕ) : Type 0 where
  pub starts : front ++ starts here (with_lengths (drop i code)) ≡ starts 0 (with_lengths code)
  pub len : here + code_len (drop i code) ≡ code_len code

pub first_start : (code : List Instr) (front : List ℕ) → front ≡ [] → SoFar code 0 0 front
first_start code front none = record { starts = rw none refl; len = omega arith }

pub within : (code : List Instr) (i here : ℕ) (front : List ℕ) (x : Instr) → i < length code → x ≡ get_or code i x → SoFar code i here front → here + instr_len x ≤ code_len code
within code i here front x lt e so = omega (arith, ap code_len (drop_read code i x lt e), so.len)

pub next_start : (code : List Instr) (i here next : ℕ) (front more : List ℕ) (x : Instr) → i < length code → x ≡ get_or code i x → next ≡ here + instr_len x → more ≡ front ++ here ∷ [] → SoFar code i here front → SoFar code (i + 1) next more
next_start code i here next front more x lt e n m so =
    let d = drop_read code i x lt e in
    record {
      starts = rw (m, n) (append_assoc front (here ∷ []) (starts (here + instr_len x) (with_lengths (drop (i + 1) code))) ∙ ap (λ (l : List Instr). front ++ starts here (with_lengths l)) (sym d) ∙ so.starts);
      len = omega (arith, ap code_len d, so.len, n);
    }

pub all_starts : (code : List Instr) (i here : ℕ) (front all : List ℕ) → length code ≤ i → all ≡ front ++ here ∷ [] → SoFar code i here front → all ≡ canonical_starts code
unfolding canonical_starts
all_starts code i here front all le e so = e ∙ ap (λ (l : List Instr). front ++ starts here (with_lengths l)) (sym (drop_all i code le)) ∙ so.starts

-- the number of all bytes, where that is below 2^64 anyhow
pub byte_count_is : (v : Abc) (n : ℕ) → Fits v → length (file_bytes v) ≡ file_len v → n ≡ min (file_len v) (2 ^ 64 - 1) → n ≡ length (file_bytes v)
byte_count_is v n f e is = omega (arith, (canonical_file v f.0 f.1).0.1, e, is)
