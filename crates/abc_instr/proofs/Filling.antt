-- Code in pieces, and what is put of it.
use Rattle.std.proofs.Common.{◌≡◌, ℕ, zero, suc, ◌+◌, ◌-◌, ◌<◌, ◌≤◌, ◌⊎◌, inl, inr, true≢false, Bool, false, true, All, List, [], ◌∷◌, ◌++◌, length, get_or, take, drop, refl, sym, ap, subst, ◌∙◌, length-append, length-drop, append_assoc, arith}
use Rattle.std.specs.List.{flat_map}
use Rattle.std.proofs.Math.ListN.{drop_of_length-le}
use Rattle.abc_base.specs.Numbers.{number_bytes}
use Rattle.std.proofs.Math.Seq.{drop-append_seam, take-add, take-append_seam}
use Rattle.std.proofs.lemmas.List.{append-nil, drop-drop, get_or_default, take_all, take_at, take-append-drop}
use Rattle.std.proofs.lemmas.List.Elements.{All-cons, All-nil}
use Rattle.abc_file_types.specs.declared.code.Instr.{Instr}
use Rattle.abc_file_types.specs.declared.code.Instr.TheVariants as instrs
use Rattle.abc_file_types.specs.CodeBytes.{canonical_starts, code_bytes, code_len, instr_bytes, instr_len, instrs_bytes, with_lengths}
use Rattle.abc_file_types.specs.Starts.{starts as starts_from}
use Rattle.abc_file_types.proofs.CodeShortest.{code_bytes_length}
use Rattle.abc_file_types.proofs.Lengths.{canonical_start, len-append}
use Rattle.abc_file_types.proofs.Resolving.{drop_read}
use Rattle.abc_varint.proofs.Putting.{stays}
use Rattle.abc_instr.specs.declared.pieces.Gap.{Gap}
use Rattle.abc_instr.specs.declared.pieces.Pieces.{Pieces}
use Rattle.abc_instr.specs.Offsets.{has_targets}
use Rattle.abc_instr.specs.Pieces.{aimed_bytes, with_gaps, free_bytes, gap_bytes, gaps_from, gaps_in, ArePieces, SoFar}

-- ---- an instruction has targets or none

record IsFree (x : Instr) : Type 0 where
  bytes : (ss : List ℕ) (here next : ℕ) → instr_bytes ss here next x ≡ free_bytes x
  gaps : (before index : ℕ) → gaps_in x before index ≡ []

record IsAimed (x : Instr) : Type 0 where
  bytes : (ss : List ℕ) (here next : ℕ) → instr_bytes ss here next x ≡ aimed_bytes ss here next x
  none : free_bytes x ≡ []
  gaps : (before index : ℕ) → gaps_in x before index ≡ record { before = before; index = index } ∷ []

free_of : (x : Instr) → has_targets x ≡ false → IsFree x
free_of (instrs.Plain op) e = record { bytes = λ ss here next. refl; gaps = λ b k. refl }
free_of (instrs.One op n) e = record { bytes = λ ss here next. refl; gaps = λ b k. refl }
free_of (instrs.Two op n m) e = record { bytes = λ ss here next. refl; gaps = λ b k. refl }
free_of (instrs.Branch op t) e = absurd (true≢false e)
free_of (instrs.Switch t ts) e = absurd (true≢false e)
free_of (instrs.Byte z) e = record { bytes = λ ss here next. refl; gaps = λ b k. refl }
free_of (instrs.Short z) e = record { bytes = λ ss here next. refl; gaps = λ b k. refl }
free_of (instrs.ScopeObject x) e = record { bytes = λ ss here next. refl; gaps = λ b k. refl }
free_of (instrs.Debug kind name reg extra) e = record { bytes = λ ss here next. refl; gaps = λ b k. refl }

aimed_of : (x : Instr) → has_targets x ≡ true → IsAimed x
aimed_of (instrs.Plain op) e = absurd (true≢false (sym e))
aimed_of (instrs.One op n) e = absurd (true≢false (sym e))
aimed_of (instrs.Two op n m) e = absurd (true≢false (sym e))
aimed_of (instrs.Branch op t) e = record { bytes = λ ss here next. refl; none = refl; gaps = λ b k. refl }
aimed_of (instrs.Switch t ts) e = record { bytes = λ ss here next. refl; none = refl; gaps = λ b k. refl }
aimed_of (instrs.Byte z) e = absurd (true≢false (sym e))
aimed_of (instrs.Short z) e = absurd (true≢false (sym e))
aimed_of (instrs.ScopeObject x) e = absurd (true≢false (sym e))
aimed_of (instrs.Debug kind name reg extra) e = absurd (true≢false (sym e))

free_or_aimed : (x : Instr) → IsFree x ⊎ IsAimed x
free_or_aimed x = by (has_targets x) refl
  where
    by : (b : Bool) → has_targets x ≡ b → IsFree x ⊎ IsAimed x
    by true e = inr (aimed_of x e)
    by false e = inl (free_of x e)

pub free_is : (x : Instr) → has_targets x ≡ false → free_bytes x ≡ instr_bytes [] 0 0 x
free_is x e = sym ((free_of x e).bytes [] 0 0)

pub aimed_plain : (x : Instr) (old new : List ℕ) → has_targets x ≡ true → new ≡ old → new ≡ old ++ free_bytes x
aimed_plain x old new e f = f ∙ sym (append-nil old) ∙ ap (λ l. old ++ l) (sym (aimed_of x e).none)

pub aimed_gaps : (x : Instr) (before index : ℕ) (old new : List Gap) → has_targets x ≡ true → new ≡ old ++ record { before = before; index = index } ∷ [] → new ≡ old ++ gaps_in x before index
aimed_gaps x before index old new e f = f ∙ ap (λ l. old ++ l) (sym ((aimed_of x e).gaps before index))

pub free_gaps : (x : Instr) (before index : ℕ) (old new : List Gap) → has_targets x ≡ false → new ≡ old → new ≡ old ++ gaps_in x before index
free_gaps x before index old new e f = f ∙ sym (append-nil old) ∙ ap (λ l. old ++ l) (sym ((free_of x e).gaps before index))

-- as many bytes are put as the instruction has
free_long : (x : Instr) → IsFree x → length (free_bytes x) ≡ instr_len x
unfolding code_bytes
free_long x free =
    let ss : List ℕ = canonical_starts (x ∷ []) in
    let n : List ℕ = number_bytes (instr_len x + 0) in
    let whole : length (n ++ (instr_bytes ss 0 (0 + instr_len x) x ++ [])) ≡ length n + (instr_len x + 0) = code_bytes_length (x ∷ []) in
    omega (arith, whole, length-append n (instr_bytes ss 0 (0 + instr_len x) x ++ []), length-append (instr_bytes ss 0 (0 + instr_len x) x) [], ap length (free.bytes ss 0 (0 + instr_len x)))

pub free_len : (x : Instr) (old new : List ℕ) → has_targets x ≡ false → new ≡ old ++ free_bytes x → length new ≡ length old + instr_len x
free_len x old new e f =
    let l : length new ≡ length old + length (free_bytes x) = ap length f ∙ length-append old (free_bytes x) in
    omega (arith, free_long x (free_of x e), l)

-- ---- taking code in pieces

pub none_taken : (code : List Instr) (p : Pieces) → p.plain.items ≡ [] → p.gaps.items ≡ [] → p.starts ≡ [] → SoFar code 0 0 p
none_taken code p e f g = record {
  plain = ap (λ l. l ++ flat_map free_bytes code) e;
  gaps = ap (λ l. l ++ gaps_from (length p.plain.items) 0 code) f ∙ ap (λ (l : List ℕ). gaps_from (length l) 0 code) e;
  starts = ap (λ l. l ++ starts_from 0 (with_lengths code)) g;
  len = omega arith;
}

pub one_more_taken : (code : List Instr) (i here next : ℕ) (p q : Pieces) (x : Instr) → i < length code → x ≡ get_or code i x → SoFar code i here p → next ≡ here + instr_len x → q.plain.items ≡ p.plain.items ++ free_bytes x
    → q.gaps.items ≡ p.gaps.items ++ gaps_in x (length p.plain.items) i → q.starts ≡ p.starts ++ here ∷ [] → SoFar code (i + 1) next q
one_more_taken code i here next p q x lt at so end e f g =
    let rest : List Instr = drop (i + 1) code in
    let d : drop i code ≡ x ∷ rest = drop_read code i x lt at in
    let long : length q.plain.items ≡ length p.plain.items + length (free_bytes x) = ap length e ∙ length-append p.plain.items (free_bytes x) in
    record {
      plain = ap (λ l. l ++ flat_map free_bytes rest) e ∙ append_assoc p.plain.items (free_bytes x) (flat_map free_bytes rest) ∙ ap (λ l. p.plain.items ++ flat_map free_bytes l) (sym d) ∙ so.plain;
      gaps = (λ j. f j ++ gaps_from (long j) (i + 1) rest) ∙ append_assoc p.gaps.items (gaps_in x (length p.plain.items) i) (gaps_from (length p.plain.items + length (free_bytes x)) (i + 1) rest)
          ∙ ap (λ l. p.gaps.items ++ gaps_from (length p.plain.items) i l) (sym d) ∙ so.gaps;
      starts = (λ j. g j ++ starts_from (end j) (with_lengths rest)) ∙ append_assoc p.starts (here ∷ []) (starts_from (here + instr_len x) (with_lengths rest)) ∙ ap (λ l. p.starts ++ starts_from here (with_lengths l)) (sym d) ∙ so.starts;
      len = let m : code_len (drop i code) ≡ instr_len x + code_len rest = ap code_len d in omega (arith, end, m, so.len);
    }

pub taken_within : (code : List Instr) (i here : ℕ) (p : Pieces) (x : Instr) → i < length code → x ≡ get_or code i x → SoFar code i here p → here + instr_len x ≤ code_len code
taken_within code i here p x lt at so =
    let m : code_len (drop i code) ≡ instr_len x + code_len (drop (i + 1) code) = ap code_len (drop_read code i x lt at) in
    omega (arith, m, so.len)

pub all_taken : (code : List Instr) (i here : ℕ) (p q : Pieces) → length code ≤ i → SoFar code i here p → q.plain.items ≡ p.plain.items → q.gaps.items ≡ p.gaps.items → q.starts ≡ p.starts ++ here ∷ [] → ArePieces code q
unfolding canonical_starts
all_taken code i here p q le so e f g =
    let none : drop i code ≡ [] = drop_of_length-le code le in
    record {
      plain = e ∙ sym (append-nil p.plain.items) ∙ ap (λ l. p.plain.items ++ flat_map free_bytes l) (sym none) ∙ so.plain;
      gaps = f ∙ sym (append-nil p.gaps.items) ∙ ap (λ l. p.gaps.items ++ gaps_from (length p.plain.items) i l) (sym none) ∙ so.gaps;
      starts = g ∙ ap (λ l. p.starts ++ starts_from here (with_lengths l)) (sym none) ∙ so.starts;
    }

-- ---- what is put between the gaps

pub fills_on : (ss : List ℕ) (code : List Instr) (plain out mid new all : List ℕ) (from i : ℕ) (gs : List Gap) (z : Gap) → i < length gs → out ++ with_gaps ss code plain from (drop i gs) ≡ all → mid ≡ out ++ take ((get_or gs i z).before - from) (drop from plain)
    → new ≡ mid ++ gap_bytes ss code (get_or gs i z) → new ++ with_gaps ss code plain (get_or gs i z).before (drop (i + 1) gs) ≡ all
fills_on ss code plain out mid new all from i gs z lt h e f =
    let g : Gap = get_or gs i z in
    let at : g ≡ get_or gs i g = get_or_default gs i z g lt in
    let t : List ℕ = take (g.before - from) (drop from plain) in
    let b : List ℕ = gap_bytes ss code g in
    let rest : List ℕ = with_gaps ss code plain g.before (drop (i + 1) gs) in
    ap (λ l. l ++ rest) (f ∙ ap (λ l. l ++ b) e) ∙ append_assoc (out ++ t) b rest ∙ append_assoc out t (b ++ rest) ∙ ap (λ l. out ++ with_gaps ss code plain from l) (sym (drop_read gs i g lt at)) ∙ h

pub fills_last : (ss : List ℕ) (code : List Instr) (plain out new all : List ℕ) (from i n : ℕ) (gs : List Gap) → length gs ≤ i → n ≡ length plain → out ++ with_gaps ss code plain from (drop i gs) ≡ all → new ≡ out ++ take (n - from) (drop from plain) → new ≡ all
fills_last ss code plain out new all from i n gs le many h e =
    let none : drop i gs ≡ [] = drop_of_length-le gs le in
    let whole : take (n - from) (drop from plain) ≡ drop from plain = take_all (n - from) (drop from plain) (omega (arith, many, length-drop from plain)) in
    e ∙ ap (λ l. out ++ l) whole ∙ ap (λ l. out ++ with_gaps ss code plain from l) (sym none) ∙ h

-- what stood at the front stays
pub kept_on : (first out new : List ℕ) → take (length first) out ≡ first → take (length out) new ≡ out → take (length first) new ≡ first
kept_on first out new h k = stays first (drop (length first) out) out new (sym (take-append-drop (length first) out) ∙ ap (λ l. l ++ drop (length first) out) h) k

pub kept_with : (first out new t : List ℕ) → take (length first) out ≡ first → new ≡ out ++ t → take (length first) new ≡ first
kept_with first out new t h e = kept_on first out new h (ap (take (length out)) e ∙ take_at out t (length out) refl)

-- ---- that these are the bytes of the code

record Splits (code : List Instr) (k : ℕ) (x : Instr) (xs : List Instr) : Type 0 where
  within : k < length code
  at : (d : Instr) → get_or code k d ≡ x
  rest : drop (k + 1) code ≡ xs

split : (k : ℕ) (code : List Instr) (x : Instr) (xs : List Instr) → drop k code ≡ x ∷ xs → Splits code k x xs
split zero [] x xs e = absurd cc
split zero (y ∷ ys) x xs e = record { within = omega arith; at = λ d. ap (λ l. get_or l 0 d) e; rest = ap (drop 1) e }
split (suc k) [] x xs e = absurd cc
split (suc k) (y ∷ ys) x xs e = let s = split k ys x xs e in
    let one : suc k + 1 ≡ suc (k + 1) = omega arith in
    record { within = omega (arith, s.within); at = s.at; rest = ap (λ (n : ℕ). drop n (y ∷ ys)) one ∙ s.rest }

longer : (plain : List ℕ) (from b : ℕ) (more rest : List ℕ) → from ≤ b → drop b plain ≡ more ++ rest → take (b + length more - from) (drop from plain) ≡ take (b - from) (drop from plain) ++ more
longer plain from b more rest le e =
    let m = b - from in
    let seen : List ℕ = drop from plain in
    let at : from + m ≡ b = omega arith in
    let d : drop m seen ≡ more ++ rest = drop-drop m from plain ∙ ap (λ (k : ℕ). drop k plain) at ∙ e in
    let many : b + length more - from ≡ m + length more = omega arith in
    ap (λ (k : ℕ). take k seen) many ∙ take-add m (length more) seen ∙ ap (λ l. take m seen ++ take (length more) l) d ∙ ap (λ l. take m seen ++ l) (take-append_seam more rest)

-- where the rest of the code starts
start_at : (code : List Instr) (k here : ℕ) (xs : List Instr) → k ≤ length code → drop k code ≡ xs → here + code_len xs ≡ code_len code → get_or (canonical_starts code) k 0 ≡ here
start_at code k here xs le d h =
    let both : code_len code ≡ code_len (take k code) + code_len (drop k code) = ap code_len (sym (take-append-drop k code)) ∙ len-append (take k code) (drop k code) in
    omega (arith, canonical_start code k le, both, ap code_len d, h)

module _ (ss : List ℕ) (code : List Instr) (plain : List ℕ) (are : ss ≡ canonical_starts code) where
  starts_here : (k here : ℕ) (xs : List Instr) → k ≤ length code → drop k code ≡ xs → here + code_len xs ≡ code_len code → get_or ss k 0 ≡ here
  starts_here k here xs le d h = ap (λ l. get_or l k 0) are ∙ start_at code k here xs le d h

  fills : (xs : List Instr) (from b k here : ℕ) → from ≤ b → drop b plain ≡ flat_map free_bytes xs → drop k code ≡ xs → here + code_len xs ≡ code_len code → with_gaps ss code plain from (gaps_from b k xs) ≡ take (b - from) (drop from plain) ++ instrs_bytes ss here xs
  fills [] from b k here le e d h =
      let whole : drop from plain ≡ take (b - from) (drop from plain) ++ drop (b - from) (drop from plain) = sym (take-append-drop (b - from) (drop from plain)) in
      let at : from + (b - from) ≡ b = omega arith in
      whole ∙ ap (λ l. take (b - from) (drop from plain) ++ l) (drop-drop (b - from) from plain ∙ ap (λ (n : ℕ). drop n plain) at ∙ e)
  fills (x ∷ xs) from b k here le e d h = by (free_or_aimed x) (fills xs from (b + n) (k + 1) (here + instr_len x) (omega arith) after s.rest left) (λ t. fills xs b b (k + 1) (here + instr_len x) (omega arith) t s.rest left)
    where
      s : Splits code k x xs
      s = split k code x xs d

      left : here + instr_len x + code_len xs ≡ code_len code
      left = omega (arith, h)

      n : ℕ
      n = length (free_bytes x)

      after : drop (b + n) plain ≡ flat_map free_bytes xs
      after = sym (drop-drop n b plain) ∙ ap (drop n) e ∙ drop-append_seam (free_bytes x) (flat_map free_bytes xs)

      by : IsFree x ⊎ IsAimed x → with_gaps ss code plain from (gaps_from (b + n) (k + 1) xs) ≡ take (b + n - from) (drop from plain) ++ instrs_bytes ss (here + instr_len x) xs
          → (drop b plain ≡ flat_map free_bytes xs → with_gaps ss code plain b (gaps_from b (k + 1) xs) ≡ take (b - b) (drop b plain) ++ instrs_bytes ss (here + instr_len x) xs)
          → with_gaps ss code plain from (gaps_from b k (x ∷ xs)) ≡ take (b - from) (drop from plain) ++ instrs_bytes ss here (x ∷ xs)
      by (inl free) more_filled from_here =
          let more = instrs_bytes ss (here + instr_len x) xs in
          ap (λ gs. with_gaps ss code plain from (gs ++ gaps_from (b + n) (k + 1) xs)) (free.gaps b k) ∙ more_filled
          ∙ ap (λ l. l ++ more) (longer plain from b (free_bytes x) (flat_map free_bytes xs) le e) ∙ append_assoc (take (b - from) (drop from plain)) (free_bytes x) more
          ∙ ap (λ l. take (b - from) (drop from plain) ++ (l ++ more)) (sym (free.bytes ss here (here + instr_len x)))
      by (inr aimed) more_filled from_here =
          let more = instrs_bytes ss (here + instr_len x) xs in
          let g : Gap = record { before = b; index = k } in
          let no : n ≡ 0 = ap length aimed.none in
          let same : b + n ≡ b = omega (arith, no) in
          let nothing : b - b ≡ 0 = omega arith in
          let one : gap_bytes ss code g ≡ instr_bytes ss here (here + instr_len x) x =
          (λ j. aimed_bytes ss (starts_here k here (x ∷ xs) (omega (arith, s.within)) d h j) (starts_here (k + 1) (here + instr_len x) xs (omega (arith, s.within)) s.rest left j) (s.at (instrs.Plain 0) j)) ∙ sym (aimed.bytes ss here (here + instr_len x)) in
          let rest : with_gaps ss code plain b (gaps_from (b + n) (k + 1) xs) ≡ more =
          ap (λ (m : ℕ). with_gaps ss code plain b (gaps_from m (k + 1) xs)) same ∙ from_here (ap (λ (m : ℕ). drop m plain) (sym same) ∙ after)
          ∙ ap (λ (m : ℕ). take m (drop b plain) ++ more) nothing in
          ap (λ gs. with_gaps ss code plain from (gs ++ gaps_from (b + n) (k + 1) xs)) (aimed.gaps b k) ∙ (λ j. take (b - from) (drop from plain) ++ (one j ++ rest j))

  pub fills_code : plain ≡ flat_map free_bytes code → with_gaps ss code plain 0 (gaps_from 0 0 code) ≡ instrs_bytes ss 0 code
  fills_code e = fills code 0 0 0 0 (omega arith) e refl (omega arith)

pub filled_is : (code : List Instr) (p : Pieces) (ss plain : List ℕ) (gs : List Gap) → ArePieces code p → ss ≡ p.starts → plain ≡ p.plain.items → gs ≡ p.gaps.items → with_gaps ss code plain 0 gs ≡ instrs_bytes p.starts 0 code
filled_is code p ss plain gs are e f g =
    (λ j. with_gaps (e j) code (f j) 0 (g j)) ∙ ap (λ l. with_gaps p.starts code p.plain.items 0 l) are.gaps ∙ fills_code p.starts code p.plain.items are.starts are.plain

-- ---- the gaps are of instructions of the code

shift : (n m : ℕ) (gs : List Gap) → n ≡ m → All (λ (g : Gap). g.index < n) gs → All (λ (g : Gap). g.index < m) gs
shift n m gs e h = subst (λ m. All (λ (g : Gap). g.index < m) gs) e h

gaps_within : (b k : ℕ) (xs : List Instr) → All (λ (g : Gap). g.index < k + length xs) (gaps_from b k xs)
gaps_within b k [] = All-nil (λ (g : Gap). g.index < k + 0)
gaps_within b k (x ∷ xs) = by (free_or_aimed x) (shift (k + 1 + length xs) (k + suc (length xs)) (gaps_from (b + length (free_bytes x)) (k + 1) xs) (omega arith) (gaps_within (b + length (free_bytes x)) (k + 1) xs))
  where
    by : IsFree x ⊎ IsAimed x → All (λ (g : Gap). g.index < k + suc (length xs)) (gaps_from (b + length (free_bytes x)) (k + 1) xs) → All (λ (g : Gap). g.index < k + suc (length xs)) (gaps_from b k (x ∷ xs))
    by (inl free) rest = subst (λ gs. All (λ (g : Gap). g.index < k + suc (length xs)) (gs ++ gaps_from (b + length (free_bytes x)) (k + 1) xs)) (sym (free.gaps b k)) rest
    by (inr aimed) rest = subst (λ gs. All (λ (g : Gap). g.index < k + suc (length xs)) (gs ++ gaps_from (b + length (free_bytes x)) (k + 1) xs)) (sym (aimed.gaps b k))
        (All-cons (λ (g : Gap). g.index < k + suc (length xs)) (record { before = b; index = k }) (gaps_from (b + length (free_bytes x)) (k + 1) xs) (omega arith) rest)

pub gaps_all_within : (code : List Instr) (p : Pieces) (gs : List Gap) → ArePieces code p → gs ≡ p.gaps.items → All (λ (g : Gap). g.index < length code) gs
gaps_all_within code p gs are e = subst (All (λ (g : Gap). g.index < length code)) (sym (e ∙ are.gaps)) (shift (0 + length code) (length code) (gaps_from 0 0 code) (omega arith) (gaps_within 0 0 code))
