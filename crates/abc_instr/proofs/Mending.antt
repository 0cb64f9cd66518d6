-- What a scan of instructions puts, once its offsets are mended.
use Rattle.std.proofs.Common.{◌≡◌, ℕ, suc, ℤ, pos, negsuc, ◌+ℤ◌, ◌-ℤ◌, ◌+◌, ◌-◌, ◌*◌, ◌<◌, option_map, false, List, [], ◌∷◌, ◌++◌, length, get_or, take, drop, Ok, Err, Some, None, refl, sym, ap, ◌∙◌, length-append, append_assoc, arith}
use Rattle.std.specs.List.{flat_map, splice}
use Rattle.std.specs.declared.option.Option.{Option}
use Rattle.std.specs.declared.result.Result.{Result}
use borrow.Rule.Slice.PartMut.{put_mid}
use Rattle.std.proofs.lemmas.List.{drop-drop, get_or_default}
use Rattle.std.proofs.Math.Seq.{drop-append-add, drop-append_seam, take-append_seam}
use Rattle.abc_base.specs.Numbers.{number_bytes}
use Rattle.abc_file_types.specs.Part.{Refusal, ◌>>=◌}
use Rattle.abc_file_types.specs.declared.code.Instr.{Instr}
use Rattle.abc_file_types.specs.declared.code.Instr.TheVariants as instrs
use Rattle.abc_file_types.specs.Canonical.{s24_bytes}
use Rattle.abc_file_types.specs.CodeBytes.{instr_bytes, instr_len, instrs_bytes, number_len, offset}
use Rattle.abc_file_types.specs.Targets.{at_start, cases_of, found_target, instr_of, instrs_of, target_of}
use Rattle.abc_file_types.proofs.Canon.{s24_length}
use Rattle.abc_file_types.proofs.Resolving.{drop_read}
use Rattle.abc_instr.specs.declared.holes.Hole.{Hole}
use Rattle.abc_instr.specs.declared.raw.RawInstr.{RawInstr as Raw}
use Rattle.abc_instr.specs.declared.raw.RawInstr.TheVariants as raws
use Rattle.abc_instr.specs.declared.resolve.Missed.{Missed}
use Rattle.abc_instr.specs.declared.resolve.Missed.TheVariants as missed
use Rattle.abc_instr.specs.declared.scan.Scan.{Scan}
use Rattle.abc_instr.specs.Marks.{mark_at, moved_at}
use Rattle.abc_instr.specs.Offsets.{AreRaw, IsRaw, has_targets, raw_len, raw_of}
use Rattle.abc_instr.specs.Resolving.{Resolves, onto_found}
use Rattle.abc_instr.specs.Scanning.{case_holes, holes_from, holes_in, instrs_in, target_moved, mended, raw_bytes, raws_in, scan_bytes, target_bytes}
use Rattle.abc_instr.proofs.Resolved.{cases_within, instr_set}

-- ---- a write over three bytes

pub overwritten : (code bytes : List ℕ) (at count : ℕ) → count ≡ 3 → put_mid at count code bytes ≡ splice code at (at + 3) bytes
overwritten code bytes at count e = ap (λ (l : List ℕ). take at code ++ (bytes ++ l)) (drop-drop count at code ∙ ap (λ (n : ℕ). drop (at + n) code) e)

-- ---- the loop that mends, a hole after the other

module _ (f : ℕ → Option ℕ) (hs : List Hole) (i : ℕ) (d : Hole) (lt : i < length hs) (code : List ℕ) (all : Result (List ℕ) Refusal) (so_far : mended f code (drop i hs) ≡ all) where
  abbrev hole : Hole
  hole = get_or hs i d

  abbrev goes_on : Result ℕ Refusal → Result (List ℕ) Refusal
  goes_on one = (one >>= λ m. Ok (s24_bytes (pos m -ℤ pos hole.moved))) >>= λ b. mended f (splice code hole.at (hole.at + 3) b) (drop (i + 1) hs)

  step : mended f code (drop i hs) ≡ goes_on (found_target hole.place (target_moved f (pos hole.base +ℤ hole.offset)))
  step = ap (mended f code) (drop_read hs i hole lt (get_or_default hs i d hole lt))

  pub mends_on : (m : ℕ) → found_target hole.place (target_moved f (pos hole.base +ℤ hole.offset)) ≡ Ok m → mended f (splice code hole.at (hole.at + 3) (s24_bytes (pos m -ℤ pos hole.moved))) (drop (i + 1) hs) ≡ all
  mends_on m e = sym (ap goes_on e) ∙ sym step ∙ so_far

  pub mends_wrong : (m : Missed) → Resolves {A = ℕ} (found_target hole.place (target_moved f (pos hole.base +ℤ hole.offset))) (Err m) → Resolves {A = List ℕ} all (Err m)
  mends_wrong (missed.Target place) e = sym so_far ∙ step ∙ ap goes_on e
  mends_wrong missed.NoMemory e = tt

-- ---- what is put of a scan

pub put_mended : (scan : Scan) (front first new code : List ℕ) → first ≡ front ++ number_bytes (length scan.code.items) → mended (mark_at scan.marks) scan.code.items scan.holes.items ≡ Ok code → new ≡ first ++ code → onto_found front (scan_bytes scan) ≡ Ok new
put_mended scan front first new code e m n =
    let many = number_bytes (length scan.code.items) in
    ap (λ (r : Result (List ℕ) Refusal). onto_found front (r >>= λ b. Ok (many ++ b))) m ∙ ap (λ (l : List ℕ). Ok l) (sym (append_assoc front many code) ∙ ap (λ (l : List ℕ). l ++ code) (sym e) ∙ sym n)

pub not_mended : (scan : Scan) (front : List ℕ) (m : Missed) → Resolves {A = List ℕ} (mended (mark_at scan.marks) scan.code.items scan.holes.items) (Err m) → Resolves {A = List ℕ} (onto_found front (scan_bytes scan)) (Err m)
not_mended scan front (missed.Target place) e = ap (λ (r : Result (List ℕ) Refusal). onto_found front (r >>= λ b. Ok (number_bytes (length scan.code.items) ++ b))) e
not_mended scan front missed.NoMemory e = tt

-- ---- where targets are moved

leads_is : (ss ms : List ℕ) (z : ℤ) → target_moved (moved_at ss ms) z ≡ option_map (λ n. get_or ms n 0) (at_start ss z)
leads_is ss ms (pos p) = refl
leads_is ss ms (negsuc p) = refl

found_map : (place : ℕ) (g : ℕ → ℕ) (h : ℕ → List ℕ) (o : Option ℕ) → (found_target place (option_map g o) >>= λ m. Ok (h m)) ≡ (found_target place o >>= λ t. Ok (h (g t)))
found_map place g h (Some t) = refl
found_map place g h None = refl

target_is : (ss ms : List ℕ) (place base moved : ℕ) (z : ℤ) → target_bytes (moved_at ss ms) place base moved z ≡ (found_target place (target_of ss base z) >>= λ t. Ok (s24_bytes (offset ms moved t)))
target_is ss ms place base moved z =
    ap (λ (o : Option ℕ). found_target place o >>= λ m. Ok (s24_bytes (pos m -ℤ pos moved))) (leads_is ss ms (pos base +ℤ z)) ∙ found_map place (λ n. get_or ms n 0) (λ m. s24_bytes (pos m -ℤ pos moved)) (target_of ss base z)

-- ---- one hole

splice_seam : (front old rest b : List ℕ) (at next : ℕ) → at ≡ length front → next ≡ length front + length old → splice (front ++ (old ++ rest)) at next b ≡ front ++ (b ++ rest)
splice_seam front old rest b at next e f =
    let before : take at (front ++ (old ++ rest)) ≡ front = ap (λ (n : ℕ). take n (front ++ (old ++ rest))) e ∙ take-append_seam front (old ++ rest) in
    let after : drop next (front ++ (old ++ rest)) ≡ rest = ap (λ (n : ℕ). drop n (front ++ (old ++ rest))) f ∙ drop-append-add front (old ++ rest) (length old) ∙ drop-append_seam old rest in
    λ j. before j ++ (b ++ after j)

mended-append : (f : ℕ → Option ℕ) (code : List ℕ) (hs gs : List Hole) → mended f code (hs ++ gs) ≡ (mended f code hs >>= λ c. mended f c gs)
mended-append f code [] gs = refl
mended-append f code (h ∷ hs) gs = by (target_bytes f h.place h.base h.moved h.offset) (λ c. mended-append f c hs gs) where
  by : (one : Result (List ℕ) Refusal) → ((c : List ℕ) → mended f c (hs ++ gs) ≡ (mended f c hs >>= λ d. mended f d gs))
      → (one >>= λ b. mended f (splice code h.at (h.at + 3) b) (hs ++ gs)) ≡ ((one >>= λ b. mended f (splice code h.at (h.at + 3) b) hs) >>= λ c. mended f c gs)
  by (Ok b) more = more (splice code h.at (h.at + 3) b)
  by (Err d) more = refl

-- what is mended from a hole on, where it stands between what is before it and what follows
module _ (ss ms : List ℕ) where
  hole_step : (h : Hole) (hs : List Hole) (front old rest : List ℕ) (more : List ℕ → Result (List ℕ) Refusal) → h.at ≡ length front → length old ≡ 3
      → ((b : List ℕ) → length b ≡ 3 → mended (moved_at ss ms) (front ++ (b ++ rest)) hs ≡ more b)
      → mended (moved_at ss ms) (front ++ (old ++ rest)) (h ∷ hs) ≡ (found_target h.place (target_of ss h.base h.offset) >>= λ t. more (s24_bytes (offset ms h.moved t)))
  hole_step h hs front old rest more e three goes =
      ap (λ (r : Result (List ℕ) Refusal). r >>= λ b. mended (moved_at ss ms) (splice (front ++ (old ++ rest)) h.at (h.at + 3) b) hs) (target_is ss ms h.place h.base h.moved h.offset)
      ∙ by (found_target h.place (target_of ss h.base h.offset)) where
        by : (one : Result ℕ Refusal) → ((one >>= λ t. Ok (s24_bytes (offset ms h.moved t))) >>= λ b. mended (moved_at ss ms) (splice (front ++ (old ++ rest)) h.at (h.at + 3) b) hs)
            ≡ (one >>= λ t. more (s24_bytes (offset ms h.moved t)))
        by (Ok t) =
            let b = s24_bytes (offset ms h.moved t) in
            ap (λ (c : List ℕ). mended (moved_at ss ms) c hs) (splice_seam front old rest b h.at (h.at + 3) e (omega (arith, e, three))) ∙ goes b (s24_length (offset ms h.moved t))
        by (Err d) = refl

  -- ---- the cases of a switch

  abbrev each_case : ℕ → List ℕ → List ℕ
  each_case moved ts = flat_map (λ u. s24_bytes (offset ms moved u)) ts

  cases_mended : (front rest : List ℕ) (next at base moved : ℕ) (zs : List ℤ) → at ≡ length front
      → mended (moved_at ss ms) (front ++ (flat_map s24_bytes zs ++ rest)) (case_holes next at base moved zs) ≡ (cases_of ss base next zs >>= λ ts. Ok (front ++ (each_case moved ts ++ rest)))
  cases_mended front rest next at base moved [] e = refl
  cases_mended front rest next at base moved (z ∷ zs) e =
      let others = flat_map s24_bytes zs in
      let h : Hole = record { place = next - 3 * suc (length zs); at = at; base = base; moved = moved; offset = z } in
      ap (λ (l : List ℕ). mended (moved_at ss ms) (front ++ l) (h ∷ case_holes next (at + 3) base moved zs)) (append_assoc (s24_bytes z) others rest)
      ∙ hole_step h (case_holes next (at + 3) base moved zs) front (s24_bytes z) (others ++ rest) (λ b. cases_of ss base next zs >>= λ ts. Ok ((front ++ b) ++ (each_case moved ts ++ rest))) e (s24_length z)
      (λ b three. ap (λ (l : List ℕ). mended (moved_at ss ms) l (case_holes next (at + 3) base moved zs)) (sym (append_assoc front b (others ++ rest)))
      ∙ cases_mended (front ++ b) rest next (at + 3) base moved zs (omega (arith, e, three, length-append front b)))
      ∙ joins (found_target h.place (target_of ss base z)) (cases_of ss base next zs) where
        joins : (one : Result ℕ Refusal) (more : Result (List ℕ) Refusal) → (one >>= λ t. more >>= λ ts. Ok ((front ++ s24_bytes (offset ms moved t)) ++ (each_case moved ts ++ rest)))
            ≡ ((one >>= λ t. more >>= λ ts. Ok (t ∷ ts)) >>= λ ts. Ok (front ++ (each_case moved ts ++ rest)))
        joins (Ok t) (Ok ts) =
            let b = s24_bytes (offset ms moved t) in
            ap (λ (l : List ℕ). Ok l) (append_assoc front b (each_case moved ts ++ rest) ∙ ap (λ (l : List ℕ). front ++ l) (sym (append_assoc b (each_case moved ts) rest)))
        joins (Ok t) (Err d) = refl
        joins (Err d) more = refl

  -- ---- one instruction

  -- the bytes of one without targets, whatever the starts are
  same_bytes : (i : Instr) → has_targets i ≡ false → (here next : ℕ) → instr_bytes ms here next i ≡ raw_bytes (raws.Same i)
  same_bytes (instrs.Plain op) e here next = refl
  same_bytes (instrs.One op n) e here next = refl
  same_bytes (instrs.Two op n m) e here next = refl
  same_bytes (instrs.Branch op t) e here next = absurd cc
  same_bytes (instrs.Switch t ts) e here next = absurd cc
  same_bytes (instrs.Byte z) e here next = refl
  same_bytes (instrs.Short z) e here next = refl
  same_bytes (instrs.ScopeObject x) e here next = refl
  same_bytes (instrs.Debug kind name reg extra) e here next = refl

  one_mended : (front rest : List ℕ) (n here next moved : ℕ) (r : Raw) → length ss ≡ suc n → IsRaw r → moved ≡ length front
      → mended (moved_at ss ms) (front ++ (raw_bytes r ++ rest)) (holes_in r here next moved) ≡ (instr_of ss here next (raw_of r) >>= λ i. Ok (front ++ (instr_bytes ms moved (moved + raw_len r) i ++ rest)))
  one_mended front rest n here next moved (raws.Same i) count raw e = ap (λ (l : List ℕ). Ok (front ++ (l ++ rest))) (sym (same_bytes i raw.1 moved (moved + instr_len i)))
  one_mended front rest n here next moved (raws.Branch op z) count raw e =
      let led = front ++ op ∷ [] in
      let h : Hole = record { place = here + 1; at = moved + 1; base = next; moved = moved + 4; offset = z } in
      ap (λ (l : List ℕ). mended (moved_at ss ms) l (h ∷ [])) (sym (append_assoc front (op ∷ []) (s24_bytes z ++ rest)))
      ∙ hole_step h [] led (s24_bytes z) rest (λ b. Ok (led ++ (b ++ rest))) (omega (arith, e, length-append front (op ∷ []))) (s24_length z) (λ b three. refl)
      ∙ joins (found_target (here + 1) (target_of ss next z)) where
        joins : (one : Result ℕ Refusal) → (one >>= λ t. Ok ((front ++ op ∷ []) ++ (s24_bytes (offset ms (moved + 4) t) ++ rest))) ≡ ((one >>= λ t. Ok (instrs.Branch op t)) >>= λ i. Ok (front ++ (instr_bytes ms moved (moved + 4) i ++ rest)))
        joins (Ok t) = ap (λ (l : List ℕ). Ok l) (append_assoc front (op ∷ []) (s24_bytes (offset ms (moved + 4) t) ++ rest))
        joins (Err d) = refl
  one_mended front rest n here next moved (raws.Switch z zs) count raw e =
      let led = front ++ 0x1b ∷ [] in
      let many = number_bytes (length zs - 1) in
      let cases = flat_map s24_bytes zs in
      let at = moved + 4 + number_len (length zs - 1) in
      let h : Hole = record { place = here + 1; at = moved + 1; base = here; moved = moved; offset = z } in
      let hs = case_holes next at here moved zs in
      let after : List ℕ → List ℕ = λ b. (led ++ b) ++ many in
      ap (λ (l : List ℕ). mended (moved_at ss ms) (front ++ 0x1b ∷ l) (h ∷ hs)) (append_assoc (s24_bytes z) (many ++ cases) rest)
      ∙ ap (λ (l : List ℕ). mended (moved_at ss ms) l (h ∷ hs)) (sym (append_assoc front (0x1b ∷ []) (s24_bytes z ++ ((many ++ cases) ++ rest))))
      ∙ hole_step h hs led (s24_bytes z) ((many ++ cases) ++ rest) (λ b. cases_of ss here next zs >>= λ ts. Ok (after b ++ (each_case moved ts ++ rest))) (omega (arith, e, length-append front (0x1b ∷ []))) (s24_length z)
      (λ b three. ap (λ (l : List ℕ). mended (moved_at ss ms) l hs) (ap (λ (l : List ℕ). led ++ (b ++ l)) (append_assoc many cases rest) ∙ sym (append_assoc led b (many ++ (cases ++ rest))) ∙ sym (append_assoc (led ++ b) many (cases ++ rest)))
      ∙ cases_mended (after b) rest next at here moved zs (omega (arith, e, three, length-append front (0x1b ∷ []), length-append led b, length-append (led ++ b) many)))
      ∙ joins (length zs) (moved + raw_len (raws.Switch z zs)) (found_target (here + 1) (target_of ss here z)) (cases_of ss here next zs) (λ us q. (cases_within ss here next n zs us count q).count) where
        joins : (k end : ℕ) (one : Result ℕ Refusal) (more : Result (List ℕ) Refusal) → ((us : List ℕ) → more ≡ Ok us → length us ≡ k)
            → (one >>= λ t. more >>= λ ts. Ok ((((front ++ 0x1b ∷ []) ++ s24_bytes (offset ms moved t)) ++ number_bytes (k - 1)) ++ (each_case moved ts ++ rest)))
            ≡ ((one >>= λ d. more >>= λ ts. Ok (instrs.Switch d ts)) >>= λ i. Ok (front ++ (instr_bytes ms moved end i ++ rest)))
        joins k end (Ok t) (Ok ts) same =
            let b = s24_bytes (offset ms moved t) in
            let many = number_bytes (k - 1) in
            let cases = each_case moved ts in
            ap (λ (l : List ℕ). Ok l) (append_assoc ((front ++ 0x1b ∷ []) ++ b) many (cases ++ rest) ∙ append_assoc (front ++ 0x1b ∷ []) b (many ++ (cases ++ rest)) ∙ append_assoc front (0x1b ∷ []) (b ++ (many ++ (cases ++ rest)))
            ∙ ap (λ (l : List ℕ). front ++ 0x1b ∷ (b ++ l)) (sym (append_assoc many cases rest)) ∙ ap (λ (l : List ℕ). front ++ 0x1b ∷ l) (sym (append_assoc b (many ++ cases) rest))
            ∙ ap (λ (n : ℕ). front ++ 0x1b ∷ ((b ++ (number_bytes (n - 1) ++ cases)) ++ rest)) (sym (same ts refl)))
        joins k end (Ok t) (Err d) same = refl
        joins k end (Err d) more same = refl

  -- ---- all of them

  cases_len : (here : ℕ) (ts : List ℕ) → length (each_case here ts) ≡ 3 * length ts
  cases_len here [] = refl
  cases_len here (t ∷ ts) = omega (arith, s24_length (offset ms here t), length-append (s24_bytes (offset ms here t)) (each_case here ts), cases_len here ts)

  bytes_len : (here next : ℕ) (i : Instr) → length (instr_bytes ms here next i) ≡ instr_len i
  bytes_len here next (instrs.Plain op) = refl
  bytes_len here next (instrs.One op n) = omega arith
  bytes_len here next (instrs.Two op n m) = omega (arith, length-append (number_bytes n) (number_bytes m))
  bytes_len here next (instrs.Branch op t) = omega (arith, s24_length (offset ms next t))
  bytes_len here next (instrs.Switch t ts) =
      let many = number_bytes (length ts - 1) in
      omega (arith, s24_length (offset ms here t), cases_len here ts, length-append (s24_bytes (offset ms here t)) (many ++ each_case here ts), length-append many (each_case here ts))
  bytes_len here next (instrs.Byte z) = refl
  bytes_len here next (instrs.Short z) = omega arith
  bytes_len here next (instrs.ScopeObject x) = refl
  bytes_len here next (instrs.Debug kind name reg extra) = omega (arith, length-append (number_bytes name) (reg ∷ number_bytes extra))

  pub all_mended : (n : ℕ) (xs : List (Raw × ℕ)) (front : List ℕ) (here moved : ℕ) → length ss ≡ suc n → AreRaw (instrs_in xs) → moved ≡ length front
      → mended (moved_at ss ms) (front ++ flat_map raw_bytes (instrs_in xs)) (holes_from here moved xs) ≡ (instrs_of ss here (raws_in xs) >>= λ js. Ok (front ++ instrs_bytes ms moved js))
  all_mended n [] front here moved count raw e = refl
  all_mended n (x ∷ xs) front here moved count raw e =
      let rest = flat_map raw_bytes (instrs_in xs) in
      let len = raw_len x.0 in
      let gs = holes_from (here + x.1) (moved + len) xs in
      mended-append (moved_at ss ms) (front ++ (raw_bytes x.0 ++ rest)) (holes_in x.0 here (here + x.1) moved) gs
      ∙ ap (λ (r : Result (List ℕ) Refusal). r >>= λ c. mended (moved_at ss ms) c gs) (one_mended front rest n here (here + x.1) moved x.0 count raw.0 e)
      ∙ joins (instr_of ss here (here + x.1) (raw_of x.0)) (λ i q. (instr_set ss here (here + x.1) n x.0 i count q raw.0).len)
      (λ led more. all_mended n xs led (here + x.1) (moved + len) count raw.1 more) where
        ends : (i : Instr) → instr_len i ≡ raw_len x.0 → (more : Result (List Instr) Refusal)
            → (more >>= λ js. Ok ((front ++ instr_bytes ms moved (moved + raw_len x.0) i) ++ instrs_bytes ms (moved + raw_len x.0) js)) ≡ ((more >>= λ js. Ok (i ∷ js)) >>= λ js. Ok (front ++ instrs_bytes ms moved js))
        ends i len (Ok js) = rw len (ap (λ (l : List ℕ). Ok l) (append_assoc front (instr_bytes ms moved (moved + raw_len x.0) i) (instrs_bytes ms (moved + raw_len x.0) js)))
        ends i len (Err d) = refl

        joins : (one : Result Instr Refusal) → ((i : Instr) → one ≡ Ok i → instr_len i ≡ raw_len x.0)
            → ((led : List ℕ) → moved + raw_len x.0 ≡ length led → mended (moved_at ss ms) (led ++ flat_map raw_bytes (instrs_in xs)) (holes_from (here + x.1) (moved + raw_len x.0) xs)
            ≡ (instrs_of ss (here + x.1) (raws_in xs) >>= λ js. Ok (led ++ instrs_bytes ms (moved + raw_len x.0) js)))
            → ((one >>= λ i. Ok (front ++ (instr_bytes ms moved (moved + raw_len x.0) i ++ flat_map raw_bytes (instrs_in xs)))) >>= λ c. mended (moved_at ss ms) c (holes_from (here + x.1) (moved + raw_len x.0) xs))
            ≡ ((one >>= λ i. instrs_of ss (here + x.1) (raws_in xs) >>= λ js. Ok (i ∷ js)) >>= λ js. Ok (front ++ instrs_bytes ms moved js))
        joins (Ok i) same more =
            let b = instr_bytes ms moved (moved + raw_len x.0) i in
            let rest = flat_map raw_bytes (instrs_in xs) in
            ap (λ (c : List ℕ). mended (moved_at ss ms) c (holes_from (here + x.1) (moved + raw_len x.0) xs)) (sym (append_assoc front b rest))
            ∙ more (front ++ b) (omega (arith, e, same i refl, bytes_len moved (moved + raw_len x.0) i, length-append front b))
            ∙ ends i (same i refl) (instrs_of ss (here + x.1) (raws_in xs))
        joins (Err d) same more = refl
