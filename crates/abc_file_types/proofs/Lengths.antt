-- Lengths of canonical bytes.
use Rattle.std.proofs.Common.{◌≡◌, ℕ, zero, suc, ◌+◌, ◌-◌, ◌/◌, ◌^◌, ◌<◌, ◌≤◌, inl, inr, List, [], ◌∷◌, ◌++◌, length, take, drop, get_or, refl, sym, ap, subst, ◌∙◌, append_assoc, add-zero, arith}
use Rattle.std.specs.List.{All, flat_map}
use Rattle.std.proofs.lemmas.List.Concat.{flat_map-append}
use Rattle.std.proofs.lemmas.Bool.{cases_lt, lt-ltb, le-ltb}
use Rattle.std.proofs.lemmas.List.{take_all, take_more, append-nil}
use Rattle.abc_base.specs.Numbers.{groups_of, number_bytes}
use Rattle.abc_file_types.specs.declared.code.Instr.{Instr}
use Rattle.abc_file_types.specs.Starts.{size, start}
use Rattle.abc_file_types.specs.CodeBytes.{instr_len, with_lengths, instr_bytes, instrs_bytes, canonical_starts, code_len}
use Rattle.abc_file_types.specs.Ready.{AllUpTo, CanSpell, AllCanSpell, Small}
use Rattle.abc_file_types.proofs.Resolving.{drop_read, length-starts}
use Rattle.abc_file_types.proofs.Meaning.{starts_from}
use Rattle.abc_file_types.proofs.CodeShortest.{start_small}

-- ---- how many bytes spell a number

groups_most : (k x : ℕ) → length (groups_of k x) ≤ k
groups_most zero x = omega arith
groups_most (suc k) x = elim (cases_lt x 128) [
  | inl lt ↦ rw (lt-ltb x 128 lt) (omega arith)
  | inr ge ↦ let h = groups_most k (x / 128) in rw (le-ltb x 128 ge) (omega arith)
]

pub number_most : (x : ℕ) → length (number_bytes x) ≤ 5
unfolding number_bytes
number_most x = groups_most 5 x

groups_more : (k x : ℕ) → 128 ≤ x → length (groups_of (suc k) x) ≡ suc (length (groups_of k (x / 128)))
groups_more k x ge = rw (le-ltb x 128 ge) refl

groups_one : (x : ℕ) → length (groups_of 1 x) ≡ 1
groups_one x = elim (cases_lt x 128) [
  | inl lt ↦ rw (lt-ltb x 128 lt) refl
  | inr ge ↦ rw (le-ltb x 128 ge) refl
]

pub number_five : (x : ℕ) → 2 ^ 28 ≤ x → length (number_bytes x) ≡ 5
unfolding number_bytes
number_five x ge =
    omega (arith, groups_more 4 x (omega arith), groups_more 3 (x / 128) (omega arith), groups_more 2 (x / 128 / 128) (omega arith), groups_more 1 (x / 128 / 128 / 128) (omega arith), groups_one (x / 128 / 128 / 128 / 128))

-- ---- lengths of instructions

pub start_step : (is : List Instr) (i n here : ℕ) (x : Instr) → i < length is → i < n → x ≡ get_or is i x → here + start (with_lengths (drop i is)) (n - i) ≡ here + instr_len x + start (with_lengths (drop (i + 1) is)) (n - (i + 1))
start_step is i n here x lt more e =
    let k : n - i ≡ suc (n - (i + 1)) = omega arith in
    let d = drop_read is i x lt e in
    rw (d, k) (omega arith)

pub len_step : (is : List Instr) (i here all : ℕ) (x : Instr) → i < length is → x ≡ get_or is i x → here + code_len (drop i is) ≡ all → here + instr_len x + code_len (drop (i + 1) is) ≡ all
len_step is i here all x lt e h =
    let d : code_len (drop i is) ≡ instr_len x + code_len (drop (i + 1) is) = ap code_len (drop_read is i x lt e) in
    omega arith

pub len-append : (xs ys : List Instr) → code_len (xs ++ ys) ≡ code_len xs + code_len ys
len-append [] ys = omega arith
len-append (x ∷ xs) ys = omega (arith, len-append xs ys)

pub bytes-push : (ss : List ℕ) (here : ℕ) (xs : List Instr) (x : Instr) → instrs_bytes ss here (xs ++ x ∷ []) ≡ instrs_bytes ss here xs ++ instr_bytes ss (here + code_len xs) (here + code_len xs + instr_len x) x
bytes-push ss here [] x = let e : here + 0 ≡ here = omega arith in rw e (append-nil (instr_bytes ss here (here + instr_len x) x))
bytes-push ss here (y ∷ xs) x =
    let next = here + instr_len y in
    let h = bytes-push ss next xs x in
    let e : next + code_len xs ≡ here + (instr_len y + code_len xs) = omega arith in
    let g : instrs_bytes ss next (xs ++ x ∷ []) ≡ instrs_bytes ss next xs ++ instr_bytes ss (here + (instr_len y + code_len xs)) (here + (instr_len y + code_len xs) + instr_len x) x = rw (← e) h in
    ap (λ (l : List ℕ). instr_bytes ss here next y ++ l) g ∙ sym (append_assoc (instr_bytes ss here next y) (instrs_bytes ss next xs) (instr_bytes ss (here + (instr_len y + code_len xs)) (here + (instr_len y + code_len xs) + instr_len x) x))

pub can_at : (n : ℕ) (is : List Instr) (i : ℕ) (x : Instr) → AllCanSpell n is → i < length is → x ≡ get_or is i x → CanSpell n x
can_at n [] i x all lt e = absurd (omega arith)
can_at n (y ∷ is) zero x all lt e = subst (λ (z : Instr). CanSpell n z) (sym e) all.0
can_at n (y ∷ is) (suc i) x all lt e = can_at n is i x all.1 (omega arith) e

pub below_all : (ss : List ℕ) (n : ℕ) (ts : List ℕ) → length ss ≡ n + 1 → Small ss n → AllUpTo n ts → All (λ t. (t < length ss) × (get_or ss t 0 < 2 ^ 23)) ts
below_all ss n [] len small all = λ k d lt. absurd (omega arith)
below_all ss n (t ∷ ts) len small all = below_cons ss t ts (omega arith, small t all.0) (below_all ss n ts len small all.1) where
  below_cons : (ss : List ℕ) (t : ℕ) (ts : List ℕ) → (t < length ss) × (get_or ss t 0 < 2 ^ 23) → All (λ t. (t < length ss) × (get_or ss t 0 < 2 ^ 23)) ts → All (λ t. (t < length ss) × (get_or ss t 0 < 2 ^ 23)) (t ∷ ts)
  below_cons ss t ts one all zero d lt = one
  below_cons ss t ts one all (suc k) d lt = all k d (omega arith)

-- ---- one more, as a loop puts it

pub map_more : (f : ℕ → List ℕ) (old mid new ts : List ℕ) (i : ℕ) → i < length ts → mid ≡ old ++ flat_map f (take i ts) → new ≡ mid ++ f (get_or ts i 0) → new ≡ old ++ flat_map f (take (i + 1) ts)
map_more f old mid new ts i lt e g =
    let t = take_more ts i 0 lt in
    let one : flat_map f (take (i + 1) ts) ≡ flat_map f (take i ts) ++ f (get_or ts i 0) = ap (flat_map f) t ∙ flat_map-append f (take i ts) (get_or ts i 0 ∷ []) ∙ ap (λ (l : List ℕ). flat_map f (take i ts) ++ l) (append-nil (f (get_or ts i 0))) in
    g ∙ ap (λ (l : List ℕ). l ++ f (get_or ts i 0)) e ∙ append_assoc old (flat_map f (take i ts)) (f (get_or ts i 0)) ∙ ap (λ (l : List ℕ). old ++ l) (sym one)

pub four : (op : ℕ) (old n1 n2 n3 n4 a b f : List ℕ) → n1 ≡ old ++ op ∷ [] → n2 ≡ n1 ++ a → n3 ≡ n2 ++ b → n4 ≡ n3 ++ f → n4 ≡ old ++ op ∷ (a ++ (b ++ f))
four op old n1 n2 n3 n4 a b f e1 e2 e3 e4 = rw (e4, e3, e2, e1) (simp append_assoc)

pub put_more : (ss old mid new : List ℕ) (is : List Instr) (i here next : ℕ) (x : Instr) → i < length is → x ≡ get_or is i x → mid ≡ old ++ instrs_bytes ss 0 (take i is) → here ≡ code_len (take i is) → next ≡ here + instr_len x → new ≡ mid ++ instr_bytes ss here next x
    → (new ≡ old ++ instrs_bytes ss 0 (take (i + 1) is)) × (next ≡ code_len (take (i + 1) is))
put_more ss old mid new is i here next x lt e m h n g =
    let t : take (i + 1) is ≡ take i is ++ x ∷ [] = take_more is i x lt ∙ ap (λ (y : Instr). take i is ++ y ∷ []) (sym e) in
    let len : code_len (take (i + 1) is) ≡ code_len (take i is) + instr_len x = ap code_len t ∙ len-append (take i is) (x ∷ []) ∙ ap (λ (k : ℕ). code_len (take i is) + k) (add-zero (instr_len x)) in
    let a : 0 + code_len (take i is) ≡ here = omega arith in
    let b : here + instr_len x ≡ next = omega arith in
    let one : instrs_bytes ss 0 (take (i + 1) is) ≡ instrs_bytes ss 0 (take i is) ++ instr_bytes ss here next x = ap (instrs_bytes ss 0) t ∙ bytes-push ss 0 (take i is) x ∙ rw (a, b) refl in
    (g ∙ ap (λ (l : List ℕ). l ++ instr_bytes ss here next x) m ∙ append_assoc old (instrs_bytes ss 0 (take i is)) (instr_bytes ss here next x) ∙ ap (λ (l : List ℕ). old ++ l) (sym one), omega (arith, len))

-- ---- the starts of code that is ready

sized_length : (is : List Instr) → length (with_lengths is) ≡ length is
sized_length [] = refl
sized_length (i ∷ is) = ap suc (sized_length is)

pub canonical_count : (is : List Instr) → length (canonical_starts is) ≡ suc (length is)
unfolding canonical_starts
canonical_count is = length-starts 0 (with_lengths is) ∙ ap suc (sized_length is)

pub canonical_small : (is : List Instr) → code_len is < 2 ^ 23 → Small (canonical_starts is) (length is)
unfolding canonical_starts
canonical_small is lt = λ t le. omega (arith, starts_from (with_lengths is) t (omega (arith, sized_length is)), start_small (with_lengths is) t)

take_sized : (is : List Instr) (t : ℕ) → take t (with_lengths is) ≡ with_lengths (take t is)
take_sized is zero = refl
take_sized [] (suc t) = refl
take_sized (i ∷ is) (suc t) = ap (λ s. (i, instr_len i) ∷ s) (take_sized is t)

pub canonical_start : (is : List Instr) (t : ℕ) → t ≤ length is → get_or (canonical_starts is) t 0 ≡ code_len (take t is)
unfolding canonical_starts
canonical_start is t le = starts_from (with_lengths is) t (omega (arith, sized_length is)) ∙ ap size (take_sized is t)

pub canonical_end : (is : List Instr) → get_or (canonical_starts is) (length is) 0 ≡ code_len is
canonical_end is = canonical_start is (length is) (omega arith) ∙ ap code_len (take_all (length is) is (omega arith))

start_more : (is : List Instr) (i : ℕ) (x : Instr) → i < length is → x ≡ get_or is i x → get_or (canonical_starts is) (i + 1) 0 ≡ get_or (canonical_starts is) i 0 + instr_len x
start_more is i x lt e =
    let t : take (i + 1) is ≡ take i is ++ x ∷ [] = take_more is i x lt ∙ ap (λ (y : Instr). take i is ++ y ∷ []) (sym e) in
    let len : code_len (take (i + 1) is) ≡ code_len (take i is) + instr_len x = ap code_len t ∙ len-append (take i is) (x ∷ []) ∙ ap (λ (k : ℕ). code_len (take i is) + k) (add-zero (instr_len x)) in
    omega (arith, canonical_start is (i + 1) (omega arith), len, canonical_start is i (omega arith))

-- as `put_more`, where the starts tell the places
pub put_between : (ss old mid new : List ℕ) (is : List Instr) (i here next : ℕ) (x : Instr) → ss ≡ canonical_starts is → i < length is → x ≡ get_or is i x → mid ≡ old ++ instrs_bytes ss 0 (take i is) → here ≡ get_or ss i 0 → next ≡ get_or ss (i + 1) 0 → new ≡ mid ++ instr_bytes ss here next x
    → new ≡ old ++ instrs_bytes ss 0 (take (i + 1) is)
put_between ss old mid new is i here next x s lt e m h n g =
    let at : get_or ss i 0 ≡ code_len (take i is) = ap (λ (l : List ℕ). get_or l i 0) s ∙ canonical_start is i (omega arith) in
    let more : get_or ss (i + 1) 0 ≡ get_or ss i 0 + instr_len x = rw s (start_more is i x lt e) in
    (put_more ss old mid new is i here next x lt e m (h ∙ at) (n ∙ more ∙ ap (λ (k : ℕ). k + instr_len x) (sym h)) g).0
