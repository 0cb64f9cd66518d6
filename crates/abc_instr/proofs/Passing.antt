-- What code says whose scan is put.
use Rattle.std.proofs.Common.{◌≡◌, ℕ, suc, ◌+◌, ◌<◌, List, [], ◌∷◌, ◌++◌, length, Ok, Err, refl, sym, ap, ◌∙◌, arith}
use Rattle.std.specs.Prelude.{All}
use Rattle.std.specs.declared.result.Result.{Result}
use Rattle.std.proofs.lemmas.List.Elements.{All-append, All-nil, All-push}
use Rattle.abc_base.specs.Numbers.{number_bytes}
use Rattle.abc_file_types.specs.Part.{At, Refusal, refusal, ◌>>=◌}
use Rattle.abc_file_types.specs.declared.code.Instr.{Instr}
use Rattle.abc_file_types.specs.Code.{code, code_body}
use Rattle.abc_file_types.specs.CodeBytes.{canonical_starts, code_bytes, instrs_bytes}
use Rattle.abc_file_types.specs.Instructions.{RawInstr, code_length, pieces}
use Rattle.abc_file_types.specs.Starts.{starts, size}
use Rattle.abc_file_types.specs.Targets.{instrs_of, resolve_targets}
use Rattle.abc_file_types.proofs.Resolving.{length-starts}
use Rattle.abc_varint.specs.declared.error.ReadError.{ReadError}
use Rattle.abc_varint.specs.declared.error.ReadError.TheVariants as errors
use Rattle.abc_varint.specs.Reads.{FailsReading}
use Rattle.abc_instr.specs.declared.scan.Scan.{Scan}
use Rattle.abc_instr.specs.declared.raw.RawInstr.{RawInstr as Raw}
use Rattle.abc_instr.specs.Offsets.{raw_of, raws_len, raws_sized}
use Rattle.abc_instr.specs.Resolving.{onto_found}
use Rattle.abc_instr.specs.Marks.{mark_at, moved_at}
use Rattle.abc_instr.specs.Scanning.{AreRead, IsWholeScan, instrs_in, raws_in, scan_bytes}
use Rattle.abc_instr.proofs.Mending.{all_mended}
use Rattle.abc_instr.proofs.Scanned.{alike, whole_len}

-- where the instructions start in the canonical bytes, and where these end
abbrev moved_starts : List (Raw × ℕ) → List ℕ
moved_starts xs = starts 0 (raws_sized (instrs_in xs))

pub raws_starts : (at : ℕ) (xs : List (Raw × ℕ)) → starts at (raws_in xs) ≡ starts at xs
raws_starts at [] = refl
raws_starts at (x ∷ xs) = ap (λ (l : List ℕ). at ∷ l) (raws_starts (at + x.1) xs)

pub raws_some : (xs : List (Raw × ℕ)) → All (λ x. 0 < x.1) xs → All (λ x. 0 < x.1) (raws_in xs)
raws_some [] all = λ k d lt. absurd (omega arith)
raws_some (x ∷ xs) all =
    let P : RawInstr × ℕ → Type 0 = λ y. 0 < y.1 in
    All-append P ((raw_of x.0, x.1) ∷ []) (raws_in xs) (All-push P [] (raw_of x.0, x.1) (All-nil P) (all 0 x (omega arith))) (raws_some xs (λ k d lt. all (suc k) d (omega arith)))

pub raws_size : (xs : List (Raw × ℕ)) → size (raws_in xs) ≡ size xs
raws_size [] = refl
raws_size (x ∷ xs) = ap (λ (n : ℕ). x.1 + n) (raws_size xs)

-- the bytes of a scan, from its instructions
scan_is : (n : ℕ) (xs : List (Raw × ℕ)) (scan : Scan) → IsWholeScan xs scan → AreRead n xs
    → scan_bytes scan ≡ (instrs_of (starts 0 xs) 0 (raws_in xs) >>= λ js. Ok (number_bytes (raws_len (instrs_in xs)) ++ instrs_bytes (moved_starts xs) 0 js))
scan_is n xs scan is read =
    let ss = starts 0 xs in
    let ms = moved_starts xs in
    let len = whole_len xs scan read.raw is in
    rw (is.marks, len, is.code, is.holes, all_mended ss ms (length xs) xs [] 0 0 (length-starts 0 xs) read.raw refl) (joins (instrs_of ss 0 (raws_in xs)) (number_bytes (raws_len (instrs_in xs))) ms) where
      joins : (r : Result (List Instr) Refusal) (front ms : List ℕ) → ((r >>= λ js. Ok ([] ++ instrs_bytes ms 0 js)) >>= λ b. Ok (front ++ b)) ≡ (r >>= λ js. Ok (front ++ instrs_bytes ms 0 js))
      joins (Ok js) front ms = refl
      joins (Err d) front ms = refl

pub record IsPut (xs : List (Raw × ℕ)) (scan : Scan) (out new : List ℕ) : Type 0 where
  pub instrs : List Instr
  pub found : instrs_of (starts 0 (raws_in xs)) 0 (raws_in xs) ≡ Ok instrs
  pub bytes : new ≡ out ++ code_bytes instrs
  pub marks : mark_at scan.marks ≡ moved_at (starts 0 (raws_in xs)) (canonical_starts instrs)

module _ (n : ℕ) (xs : List (Raw × ℕ)) (scan : Scan) (is : IsWholeScan xs scan) (read : AreRead n xs) (out : List ℕ) where
  first : starts 0 xs ≡ starts 0 (raws_in xs)
  first = sym (raws_starts 0 xs)

  found : (new : List ℕ) (r : Result (List Instr) Refusal) → instrs_of (starts 0 xs) 0 (raws_in xs) ≡ r → onto_found out (r >>= λ js. Ok (number_bytes (raws_len (instrs_in xs)) ++ instrs_bytes (moved_starts xs) 0 js)) ≡ Ok new → IsPut xs scan out new
  unfolding canonical_starts code_bytes
  found new (Ok js) e h =
      let count : length (starts 0 xs) ≡ suc (length xs) = length-starts 0 xs in
      let a = alike (starts 0 xs) 0 (length xs) xs js count e read.raw in
      let b : out ++ (number_bytes (raws_len (instrs_in xs)) ++ instrs_bytes (moved_starts xs) 0 js) ≡ new = cc in
      record {
        instrs = js;
        found = rw (← first) e;
        bytes = sym b ∙ rw (a.len, a.starts_are 0) refl;
        marks = is.marks ∙ rw (first, a.starts_are 0) refl;
      }
  found new (Err d) e h = absurd cc

  missed : (d : Refusal) (r : Result (List Instr) Refusal) → instrs_of (starts 0 xs) 0 (raws_in xs) ≡ r → onto_found out (r >>= λ js. Ok (number_bytes (raws_len (instrs_in xs)) ++ instrs_bytes (moved_starts xs) 0 js)) ≡ Err d
      → instrs_of (starts 0 (raws_in xs)) 0 (raws_in xs) ≡ Err d
  missed d (Ok js) e h = absurd cc
  missed d (Err f) e h = let same : f ≡ d = cc in rw (← first) (e ∙ ap (λ (x : Refusal). Err x) same)

  pub is_put : (new : List ℕ) → onto_found out (scan_bytes scan) ≡ Ok new → IsPut xs scan out new
  is_put new h = found new (instrs_of (starts 0 xs) 0 (raws_in xs)) refl (ap (onto_found out) (sym (scan_is n xs scan is read)) ∙ h)

  pub is_missed : (d : Refusal) → onto_found out (scan_bytes scan) ≡ Err d → instrs_of (starts 0 (raws_in xs)) 0 (raws_in xs) ≡ Err d
  is_missed d h = missed d (instrs_of (starts 0 xs) 0 (raws_in xs)) refl (ap (onto_found out) (sym (scan_is n xs scan is read)) ∙ h)

-- ---- code

pub code_found : (n : ℕ) (from a b : At) (xs : List (Raw × ℕ)) (js : List Instr) → code_length.reads from ≡ Ok (n, a) → (pieces n).reads a ≡ Ok (raws_in xs, b) → instrs_of (starts 0 (raws_in xs)) 0 (raws_in xs) ≡ Ok js
    → code.reads from ≡ Ok (record { instrs = js; offsets = starts 0 (raws_in xs) }, b)
unfolding code code_body resolve_targets
code_found n from a b xs js e f g = rw (e, f, g) refl

pub code_missed : (n : ℕ) (from a b : At) (xs : List (Raw × ℕ)) (d : Refusal) → code_length.reads from ≡ Ok (n, a) → (pieces n).reads a ≡ Ok (raws_in xs, b) → instrs_of (starts 0 (raws_in xs)) 0 (raws_in xs) ≡ Err d
    → code.reads from ≡ Err (refusal (a.place + d.place) d.reason)
unfolding code code_body resolve_targets
code_missed n from a b xs d e f g = rw (e, f, g) refl

pub length_fails : (e : ReadError) (from : At) → FailsReading e (code_length.reads from) → FailsReading e (code.reads from)
unfolding code
length_fails (errors.Refused place reason) from f = rw f refl
length_fails errors.ReadFault from f = tt
length_fails errors.NoMemory from f = tt

pub pieces_fail : (e : ReadError) (n : ℕ) (from a : At) → code_length.reads from ≡ Ok (n, a) → FailsReading e ((pieces n).reads a) → FailsReading e (code.reads from)
unfolding code code_body
pieces_fail (errors.Refused place reason) n from a g f = rw (g, f) refl
pieces_fail errors.ReadFault n from a g f = tt
pieces_fail errors.NoMemory n from a g f = tt
