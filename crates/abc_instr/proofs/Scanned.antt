-- What a scan knows of the instructions that were read, and how it grows.
use Rattle.std.proofs.Common.{◌≡◌, ℕ, ℤ, suc, ◌+◌, ◌-◌, ◌*◌, ◌^◌, ◌<◌, ◌≤◌, List, [], ◌∷◌, ◌++◌, length, get_or, Bool, true, false, Ok, Some, None, refl, sym, ap, subst, ◌∙◌, length-append, append_assoc, zero-add, inl, inr, arith}
use Rattle.std.specs.Prelude.{All, if◌then◌else◌, nat_eq, nat_lt, option_map}
use Rattle.std.specs.List.{flat_map, position_or_len}
use Rattle.std.proofs.Math.Path.{fun_ext}
use Rattle.std.proofs.lemmas.Bool.{cases_Bool, cases_lt, eq-eqb, le-ltb, lt-ltb, ne_eqb}
use Rattle.std.proofs.lemmas.Bool.Decides.{eqb_tells}
use Rattle.std.specs.declared.option.Option.{Option}
use Rattle.std.proofs.lemmas.List.{append-nil, map-append}
use Rattle.std.proofs.lemmas.List.Concat.{flat_map-append}
use Rattle.std.proofs.lemmas.List.Elements.{All-append, All-cons, All-nil}
use Rattle.abc_file_types.specs.Part.{◌>>=◌}
use Rattle.abc_file_types.proofs.Exact.{bind_ok}
use Rattle.abc_file_types.specs.declared.code.Instr.{Instr}
use Rattle.abc_file_types.specs.declared.code.Instr.TheVariants as instrs
use Rattle.abc_base.specs.Numbers.{number_bytes}
use Rattle.abc_file_types.specs.Canonical.{s24_bytes}
use Rattle.abc_file_types.specs.CodeBytes.{code_len, number_len, with_lengths}
use Rattle.abc_file_types.proofs.Canon.{s24_length}
use Rattle.abc_file_types.specs.Starts.{starts, size}
use Rattle.abc_file_types.specs.Targets.{instr_of, instrs_of}
use Rattle.abc_instr.specs.declared.holes.Hole.{Hole}
use Rattle.abc_instr.specs.declared.scan.Scan.{Scan}
use Rattle.abc_instr.specs.declared.raw.RawInstr.{RawInstr as Raw}
use Rattle.abc_instr.specs.declared.raw.RawInstr.TheVariants as raws
use Rattle.abc_instr.specs.Offsets.{has_targets, raw_len, raw_of, raws_len, raws_sized, AreRaw, IsRaw}
use Rattle.abc_instr.specs.Marks.{mark_at, with_mark, moved_at}
use Rattle.abc_instr.specs.Scanning.{AddsInstruction, AreRead, IsHole, IsScan, IsWholeScan, case_holes, holes_from, holes_in, instrs_in, raw_bytes, raws_in, start_in}
use Rattle.abc_instr.proofs.Resolved.{instr_set}

-- ---- one instruction

-- The bytes of an instruction without targets are as many as it has.
same_len : (i : Instr) → has_targets i ≡ false → length (raw_bytes (raws.Same i)) ≡ raw_len (raws.Same i)
same_len (instrs.Plain op) e = refl
same_len (instrs.One op n) e = omega arith
same_len (instrs.Two op n m) e = omega (arith, length-append {A = ℕ})
same_len (instrs.Branch op t) e = absurd cc
same_len (instrs.Switch t ts) e = absurd cc
same_len (instrs.Byte z) e = refl
same_len (instrs.Short z) e = omega arith
same_len (instrs.ScopeObject x) e = refl
same_len (instrs.Debug kind name reg extra) e = omega (arith, length-append {A = ℕ})

cases_len : (zs : List ℤ) → length (flat_map s24_bytes zs) ≡ 3 * length zs
cases_len [] = refl
cases_len (z ∷ zs) = omega (arith, s24_length z, length-append (s24_bytes z) (flat_map s24_bytes zs), cases_len zs)

pub bytes_len : (i : Raw) → IsRaw i → length (raw_bytes i) ≡ raw_len i
bytes_len (raws.Same i) raw = same_len i raw.1
bytes_len (raws.Branch op z) raw = omega (arith, s24_length z)
bytes_len (raws.Switch z zs) raw =
    let many = number_bytes (length zs - 1) in
    let cases = flat_map s24_bytes zs in
    omega (arith, s24_length z, cases_len zs, length-append (s24_bytes z) (many ++ cases), length-append many cases)

-- ---- the marks

-- one start more
start_push : (h m : ℕ) (xs : List (Raw × ℕ)) (x : Raw × ℕ) (p : ℕ) → All (λ y. 0 < y.1) xs → start_in h m (xs ++ x ∷ []) p ≡ with_mark (h + size xs) (m + raws_len (instrs_in xs)) (start_in h m xs) p
start_push h m [] x p some = let e : h + 0 ≡ h = omega arith in let f : m + 0 ≡ m = omega arith in rw (e, f) refl
start_push h m (y ∷ xs) x p some =
    let first : 0 < y.1 = some 0 y (omega arith) in
    let e : h + (y.1 + size xs) ≡ h + y.1 + size xs = omega arith in
    let f : m + (raw_len y.0 + raws_len (instrs_in xs)) ≡ m + raw_len y.0 + raws_len (instrs_in xs) = omega arith in
    elim (eqb_tells p h) [
      | inl here ↦ let other : nat_eq p (h + y.1 + size xs) ≡ false = ne_eqb p (h + y.1 + size xs) (λ same. omega (arith, here.1, same)) in rw (e, f, here.0, other) refl
      | inr there ↦ rw (e, f, there.0) (start_push (h + y.1) (m + raw_len y.0) xs x p (λ k d lt. some (suc k) d (omega arith)))
    ]

-- a start and the others
moved_first : (s m : ℕ) (ss ms : List ℕ) (p : ℕ) → moved_at (s ∷ ss) (m ∷ ms) p ≡ (if nat_eq s p then Some m else moved_at ss ms p)
moved_first s m ss ms p = elim (cases_Bool (nat_eq s p)) [
  | inl here ↦ let some = lt-ltb 0 (suc (length ss)) (omega arith) in rw (here, some) refl
  | inr there ↦ rw there (later (position_or_len (λ t. nat_eq t p) ss))
] where
  later : (k : ℕ) → option_map (λ n. get_or (m ∷ ms) n 0) (if nat_lt (1 + k) (suc (length ss)) then Some (1 + k) else None) ≡ option_map (λ n. get_or ms n 0) (if nat_lt k (length ss) then Some k else None)
  later k = elim (cases_lt k (length ss)) [
    | inl lt ↦ let a = lt-ltb k (length ss) lt in let b = lt-ltb (1 + k) (suc (length ss)) (omega arith) in let c : 1 + k ≡ suc k = omega arith in rw (a, b, c) refl
    | inr ge ↦ let a = le-ltb k (length ss) ge in let b = le-ltb (1 + k) (suc (length ss)) (omega arith) in rw (a, b) refl
  ]

chosen : (b : Bool) (x y : Option ℕ) → b ≡ true → (if b then x else y) ≡ x
chosen b x y e = rw e refl

passed_by : (b : Bool) (x y : Option ℕ) → b ≡ false → (if b then x else y) ≡ y
passed_by b x y e = rw e refl

eq_sym : (a b : ℕ) → nat_eq a b ≡ nat_eq b a
eq_sym a b = elim (eqb_tells a b) [
  | inl same ↦ same.0 ∙ sym (eq-eqb b a (sym same.1))
  | inr other ↦ other.0 ∙ sym (ne_eqb b a (λ same. other.1 (sym same)))
]

-- with the end they are all starts
pub all_marked : (h m : ℕ) (xs : List (Raw × ℕ)) (p : ℕ) → All (λ y. 0 < y.1) xs → with_mark (h + size xs) (m + raws_len (instrs_in xs)) (start_in h m xs) p ≡ moved_at (starts h xs) (starts m (raws_sized (instrs_in xs))) p
all_marked h m [] p some = let e : h + 0 ≡ h = omega arith in let f : m + 0 ≡ m = omega arith in rw (e, f) (rw (eq_sym p h) (sym (moved_first h m [] [] p)))
all_marked h m (y ∷ xs) p some =
    let first : 0 < y.1 = some 0 y (omega arith) in
    let e : h + (y.1 + size xs) ≡ h + y.1 + size xs = omega arith in
    let f : m + (raw_len y.0 + raws_len (instrs_in xs)) ≡ m + raw_len y.0 + raws_len (instrs_in xs) = omega arith in
    let rest = all_marked (h + y.1) (m + raw_len y.0) xs p (λ k d lt. some (suc k) d (omega arith)) in
    let all = moved_first h m (starts (h + y.1) xs) (starts (m + raw_len y.0) (raws_sized (instrs_in xs))) p in
    elim (eqb_tells p h) [
      | inl here ↦
          let other : nat_eq p (h + y.1 + size xs) ≡ false = ne_eqb p (h + y.1 + size xs) (λ same. omega (arith, here.1, same)) in
          let back : nat_eq h p ≡ true = eq-eqb h p (sym here.1) in
          rw (e, f, here.0, other) (sym (all ∙ chosen (nat_eq h p) (Some m) _ back))
      | inr there ↦ let back : nat_eq h p ≡ false = ne_eqb h p (λ same. there.1 (sym same)) in rw (e, f, there.0) (rest ∙ sym (all ∙ passed_by (nat_eq h p) (Some m) _ back))
    ]

-- ---- one more

abbrev pub bytes_in : List (Raw × ℕ) → List ℕ
bytes_in xs = flat_map raw_bytes (instrs_in xs)

pub all_bytes_len : (xs : List (Raw × ℕ)) → AreRaw (instrs_in xs) → length (bytes_in xs) ≡ raws_len (instrs_in xs)
all_bytes_len [] raw = refl
all_bytes_len (x ∷ xs) raw = omega (arith, bytes_len x.0 raw.0, all_bytes_len xs raw.1, length-append (raw_bytes x.0) (bytes_in xs))

-- so many canonical bytes there are
pub code_len_is : (xs : List (Raw × ℕ)) (scan : Scan) → AreRaw (instrs_in xs) → IsScan xs scan → length scan.code.items ≡ raws_len (instrs_in xs)
code_len_is xs scan raw is = ap length is.code ∙ all_bytes_len xs raw

holes_push : (h m : ℕ) (xs : List (Raw × ℕ)) (x : Raw × ℕ) → holes_from h m (xs ++ x ∷ []) ≡ holes_from h m xs ++ holes_in x.0 (h + size xs) (h + size xs + x.1) (m + raws_len (instrs_in xs))
holes_push h m [] x = rw (zero_more h, zero_more m) (append-nil (holes_in x.0 h (h + x.1) m)) where
  zero_more : (n : ℕ) → n + 0 ≡ n
  zero_more n = omega arith
holes_push h m (y ∷ xs) x =
    let one = holes_in y.0 h (h + y.1) m in
    let e1 : h + y.1 + size xs ≡ h + (y.1 + size xs) = omega arith in
    let e2 : m + raw_len y.0 + raws_len (instrs_in xs) ≡ m + (raw_len y.0 + raws_len (instrs_in xs)) = omega arith in
    let g = rw (e1, e2) at (holes_push (h + y.1) (m + raw_len y.0) xs x) in
    ap (λ (l : List Hole). one ++ l) g ∙ sym (append_assoc one (holes_from (h + y.1) (m + raw_len y.0) xs) _)

-- An instruction x of n bytes came to the scan of some others, whose end was marked before.
pub scan_push : (xs : List (Raw × ℕ)) (x : Raw) (n here : ℕ) (old mid new : Scan) → All (λ y. 0 < y.1) xs → AreRaw (instrs_in xs) → here ≡ size xs → IsScan xs old
    → ((p : ℕ) → mark_at mid.marks p ≡ with_mark here (length old.code.items) (mark_at old.marks) p) → mid.code.items ≡ old.code.items → mid.holes.items ≡ old.holes.items
    → AddsInstruction x n here mid new → IsScan (xs ++ (x, n) ∷ []) new
scan_push xs x n here old mid new some raw h is marks code holes adds =
    let all : instrs_in (xs ++ (x, n) ∷ []) ≡ instrs_in xs ++ x ∷ [] = map-append (λ (y : Raw × ℕ). y.0) xs ((x, n) ∷ []) in
    let bytes : bytes_in (xs ++ (x, n) ∷ []) ≡ bytes_in xs ++ raw_bytes x = ap (flat_map raw_bytes) all ∙ flat_map-append raw_bytes (instrs_in xs) (x ∷ []) ∙ ap (λ (l : List ℕ). bytes_in xs ++ l) (append-nil (raw_bytes x)) in
    let len = code_len_is xs old raw is in
    record {
      marks = λ p. ap (λ (m : List ℕ). mark_at m p) adds.marks ∙ marks p ∙ rw (len, is.marks p, h) (simp zero-add at (sym (start_push 0 0 xs (x, n) p some)));
      code = adds.code ∙ ap (λ (l : List ℕ). l ++ raw_bytes x) (code ∙ is.code) ∙ sym bytes;
      holes = adds.holes ∙ rw (holes, is.holes, code, len, h) (simp zero-add at (sym (holes_push 0 0 xs (x, n))));
    }

-- Once the end is marked, the scan is whole.
pub scan_whole : (xs : List (Raw × ℕ)) (here : ℕ) (old new : Scan) → All (λ y. 0 < y.1) xs → AreRaw (instrs_in xs) → here ≡ size xs → IsScan xs old
    → ((p : ℕ) → mark_at new.marks p ≡ with_mark here (length old.code.items) (mark_at old.marks) p) → new.code.items ≡ old.code.items → new.holes.items ≡ old.holes.items → IsWholeScan xs new
scan_whole xs here old new some raw h is marks code holes = let len = code_len_is xs old raw is in record {
  marks = fun_ext (λ p. marks p ∙ rw (len, is.marks p, h) (simp zero-add at (all_marked 0 0 xs p some)));
  code = code ∙ is.code;
  holes = holes ∙ is.holes;
}

-- ---- what a scan says

case_holes_ok : (n next at base moved : ℕ) (zs : List ℤ) → at + 3 * length zs ≤ n → base ≤ 2 ^ 24 → moved < 2 ^ 23 → All (IsHole n) (case_holes next at base moved zs)
case_holes_ok n next at base moved [] within small short = All-nil (IsHole n)
case_holes_ok n next at base moved (z ∷ zs) within small short =
    All-cons (IsHole n) _ (case_holes next (at + 3) base moved zs) (record { within = omega arith; base = small; moved = short }) (case_holes_ok n next (at + 3) base moved zs (omega arith) small short)

holes_in_ok : (n : ℕ) (i : Raw) (here next moved : ℕ) → here ≤ 2 ^ 24 → next ≤ 2 ^ 24 → moved + raw_len i ≤ n → n < 2 ^ 23 → All (IsHole n) (holes_in i here next moved)
holes_in_ok n (raws.Same i) here next moved near far within small = All-nil (IsHole n)
holes_in_ok n (raws.Branch op z) here next moved near far within small = All-cons (IsHole n) _ [] (record { within = omega arith; base = far; moved = omega arith }) (All-nil (IsHole n))
holes_in_ok n (raws.Switch z zs) here next moved near far within small =
    All-cons (IsHole n) _ (case_holes next (moved + 4 + number_len (length zs - 1)) here moved zs) (record { within = omega arith; base = near; moved = omega arith })
    (case_holes_ok n next (moved + 4 + number_len (length zs - 1)) here moved zs (omega arith) near (omega arith))

holes_ok : (n : ℕ) (xs : List (Raw × ℕ)) (h m : ℕ) → h + size xs ≤ 2 ^ 24 → m + raws_len (instrs_in xs) ≤ n → n < 2 ^ 23 → All (IsHole n) (holes_from h m xs)
holes_ok n [] h m near within small = All-nil (IsHole n)
holes_ok n (x ∷ xs) h m near within small =
    All-append (IsHole n) (holes_in x.0 h (h + x.1) m) (holes_from (h + x.1) (m + raw_len x.0) xs)
    (holes_in_ok n x.0 h (h + x.1) m (omega arith) (omega arith) (omega arith) small) (holes_ok n xs (h + x.1) (m + raw_len x.0) (omega arith) (omega arith) small)

pub whole_len : (xs : List (Raw × ℕ)) (scan : Scan) → AreRaw (instrs_in xs) → IsWholeScan xs scan → length scan.code.items ≡ raws_len (instrs_in xs)
whole_len xs scan raw is = ap length is.code ∙ all_bytes_len xs raw

pub holes_are : (n : ℕ) (xs : List (Raw × ℕ)) (scan : Scan) → n < 2 ^ 23 → IsWholeScan xs scan → AreRead n xs → All (IsHole (length scan.code.items)) scan.holes.items
holes_are n xs scan small is read =
    let len = whole_len xs scan read.raw is in
    rw (is.holes, len) (holes_ok (raws_len (instrs_in xs)) xs 0 0 (omega (arith, read.size)) (omega arith) (omega (arith, read.few)))

-- The instructions with their targets are as long as they were.
pub record AreAlike (is : List Raw) (js : List Instr) : Type 0 where
  pub len : code_len js ≡ raws_len is
  pub starts_are : (at : ℕ) → starts at (with_lengths js) ≡ starts at (raws_sized is)

pub alike : (ss : List ℕ) (here n : ℕ) (xs : List (Raw × ℕ)) (js : List Instr) → length ss ≡ suc n → instrs_of ss here (raws_in xs) ≡ Ok js → AreRaw (instrs_in xs) → AreAlike (instrs_in xs) js
alike ss here n [] js count e raw = let same : [] ≡ js = cc in subst (AreAlike []) same (record { len = refl; starts_are = λ at. refl })
alike ss here n (x ∷ xs) js count e raw =
    let next = here + x.1 in
    let more = instrs_of ss next (raws_in xs) in
    let a = bind_ok (instr_of ss here next (raw_of x.0)) (λ y. more >>= λ ys. Ok (y ∷ ys)) js e in
    let b = bind_ok more (λ ys. Ok (a.0 ∷ ys)) js a.2 in
    let one = instr_set ss here next n x.0 a.0 count a.1 raw.0 in
    let rest = alike ss next n xs b.0 count b.1 raw.1 in
    let same : a.0 ∷ b.0 ≡ js = let h = b.2 in cc in
    subst (AreAlike (x.0 ∷ instrs_in xs)) same (record {
      len = omega (arith, one.len, rest.len);
      starts_are = λ at. rw one.len (ap (λ (l : List ℕ). at ∷ l) (rest.starts_are (at + raw_len x.0)));
    })
