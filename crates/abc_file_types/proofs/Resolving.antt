-- Starts, searches among them, and where a target that is missed stands.
use Rattle.std.proofs.Common.{◌≡◌, ℕ, zero, suc, ℤ, pos, ◌+◌, ◌-◌, ◌*◌, ◌^◌, ◌<◌, ◌≤◌, ◌≢◌, inl, inr, true, false, List, [], ◌∷◌, ◌++◌, length, drop, get_or, nat_eq, Ok, Err, Some, None, refl, sym, ap, subst, ◌∙◌, append_assoc, arith}
use Rattle.std.proofs.lemmas.List.{drop_more}
use Rattle.std.proofs.lemmas.List.Sums.{position_or_len_is}
use Rattle.std.proofs.lemmas.Bool.{lt-ltb, le-ltb, cases_lt}
use Rattle.std.proofs.lemmas.List.Sorted.{searched}
use Rattle.std.specs.List.Sorted.{IsBinarySearchResult}
use Rattle.std.specs.Ordering.{nat_cmp}
use Rattle.std.proofs.lemmas.Bool.Decides.{nat_tests}
use Rattle.std.specs.List.{position, position_or_len, All}
use Rattle.std.specs.declared.option.Option.{Option}
use Rattle.std.specs.declared.result.Result.{Result}
use Rattle.abc_file_types.specs.declared.reason.Reason.TheVariants as reasons
use Rattle.abc_file_types.specs.Part.{Refusal, refusal, ◌>>=◌}
use Rattle.abc_file_types.proofs.Exact.{bind_err}
use Rattle.abc_file_types.specs.Starts.{starts, size, IsRising}
use Rattle.abc_file_types.specs.Targets.{at_start, target_of, found_target, cases_of, instr_of, instrs_of, resolve_targets}
use Rattle.abc_file_types.specs.Instructions.{RawInstr, Same, Branch, Switch}
use Rattle.abc_file_types.specs.declared.code.Instr.TheVariants as instrs

pub drop_read : {X : Type 0} (xs : List X) (i : ℕ) (x : X) → i < length xs → x ≡ get_or xs i x → drop i xs ≡ x ∷ drop (i + 1) xs
drop_read xs i x lt e = drop_more xs i x lt ∙ ap (λ y. y ∷ drop (i + 1) xs) (sym e)

-- ---- starts

pub starts_step : {A : Type 0} (os ss : List ℕ) (ps : List (A × ℕ)) (i here : ℕ) (x : A × ℕ) → i < length ps → x ≡ get_or ps i x → os ++ starts here (drop i ps) ≡ ss → (os ++ here ∷ []) ++ starts (here + x.1) (drop (i + 1) ps) ≡ ss
starts_step os ss ps i here x lt e h =
    let d = drop_read ps i x lt e in
    append_assoc os (here ∷ []) (starts (here + x.1) (drop (i + 1) ps)) ∙ ap (λ ys. os ++ starts here ys) (sym d) ∙ h

pub size_step : {A : Type 0} (ps : List (A × ℕ)) (i here all : ℕ) (x : A × ℕ) → i < length ps → x ≡ get_or ps i x → here + size (drop i ps) ≡ all → here + x.1 + size (drop (i + 1) ps) ≡ all
size_step ps i here all x lt e h =
    let d : size (drop i ps) ≡ x.1 + size (drop (i + 1) ps) = ap size (drop_read ps i x lt e) in
    omega arith

-- ---- the search

pub position_is : (ss : List ℕ) (i : ℕ) → IsRising ss → i < length ss → position (λ s. nat_eq s (get_or ss i 0)) ss ≡ Some i
position_is ss i up lt =
    let below : (k : ℕ) → k < i → nat_eq (get_or ss k 0) (get_or ss i 0) ≡ false = λ k h. let l : get_or ss k 0 < get_or ss i 0 = up.rising k i h lt in grind (arith, nat_tests) in
    let here : i < length ss → nat_eq (get_or ss i 0) (get_or ss i 0) ≡ true = λ h. grind (arith, nat_tests) in
    let p : position_or_len (λ s. nat_eq s (get_or ss i 0)) ss ≡ i = position_or_len_is (λ s. nat_eq s (get_or ss i 0)) ss i 0 (omega arith) below here in
    rw (p, lt-ltb i (length ss) lt) refl

pub position_none : (ss : List ℕ) (x : ℕ) → ((k : ℕ) → k < length ss → get_or ss k 0 ≢ x) → position (λ s. nat_eq s x) ss ≡ None
position_none ss x other =
    let below : (k : ℕ) → k < length ss → nat_eq (get_or ss k 0) x ≡ false = λ k h. let n = other k h in grind (arith, nat_tests) in
    let p : position_or_len (λ s. nat_eq s x) ss ≡ length ss = position_or_len_is (λ s. nat_eq s x) ss (length ss) 0 (omega arith) below (λ h. absurd (omega arith)) in
    rw (p, le-ltb (length ss) (length ss) (omega arith)) refl

up_to : (ss : List ℕ) → IsRising ss → (i j : ℕ) → i ≤ j → j < length ss → get_or ss i 0 ≤ get_or ss j 0
up_to ss up i j le lt =
    elim (cases_lt i j) [
      | inl l ↦ let h = up.rising i j l lt in omega arith
      | inr g ↦ let same : i ≡ j = omega arith in rw same (omega arith)
    ]

abbrev pub Says : List ℕ → ℕ → Result ℕ ℕ → Type 0
Says ss x (Ok i) = Some i ≡ position (λ s. nat_eq s x) ss
Says ss x (Err i) = None ≡ position (λ s. nat_eq s x) ss

pub search_is : (ss : List ℕ) (x : ℕ) (r : Result ℕ ℕ) → IsRising ss → IsBinarySearchResult (λ y. nat_cmp y x) ss r → Says ss x r
search_is ss x (Ok i) up h =
    let s = searched ss x (Ok i) h (up_to ss up) in
    let at : get_or ss i 0 ≡ x = s.1 in
    subst (λ (n : ℕ). Some i ≡ position (λ s. nat_eq s n) ss) at (sym (position_is ss i up s.0))
search_is ss x (Err i) up h =
    let s = searched ss x (Err i) h (up_to ss up) in
    sym (position_none ss x (λ k lt. elim (cases_lt k i) [
      | inl l ↦ let b = s.1 k l in omega arith
      | inr g ↦ let b = s.2 k g lt in omega arith
    ]))

pub at_number : (ss : List ℕ) (z : ℤ) (n : ℕ) → z ≡ pos n → position (λ s. nat_eq s n) ss ≡ at_start ss z
at_number ss z n e = rw e refl

pub size-push : {A : Type 0} (ps : List (A × ℕ)) (x : A × ℕ) → size (ps ++ x ∷ []) ≡ size ps + x.1
size-push [] x = omega arith
size-push (p ∷ ps) x = omega (arith, size-push ps x)

above : {A : Type 0} (at : ℕ) (ps : List (A × ℕ)) (j : ℕ) → All (λ p. 0 < p.1) ps → j < length (starts at ps) → at + j ≤ get_or (starts at ps) j 0
above at [] zero all lt = omega arith
above at [] (suc j) all lt = absurd (omega arith)
above at (p ∷ ps) zero all lt = omega arith
above at (p ∷ ps) (suc j) all lt =
    let one : 0 < p.1 = all 0 p (omega arith) in
    let h = above (at + p.1) ps j (λ k d l. all (suc k) d (omega arith)) (omega arith) in
    omega arith

rises : {A : Type 0} (at : ℕ) (ps : List (A × ℕ)) (i j : ℕ) → All (λ p. 0 < p.1) ps → i < j → j < length (starts at ps) → get_or (starts at ps) i 0 < get_or (starts at ps) j 0
rises at [] i j all lt len = absurd (omega arith)
rises at (p ∷ ps) i zero all lt len = absurd (omega arith)
rises at (p ∷ ps) zero (suc j) all lt len =
    let one : 0 < p.1 = all 0 p (omega arith) in
    let h = above (at + p.1) ps j (λ k d l. all (suc k) d (omega arith)) (omega arith) in
    omega arith
rises at (p ∷ ps) (suc i) (suc j) all lt len = rises (at + p.1) ps i j (λ k d l. all (suc k) d (omega arith)) (omega arith) (omega arith)

pub starts_rising : {A : Type 0} (ps : List (A × ℕ)) → All (λ p. 0 < p.1) ps → IsRising (starts 0 ps)
starts_rising ps all = record { rising = λ i j lt len. rises 0 ps i j all lt len }

pub length-starts : {A : Type 0} (at : ℕ) (ps : List (A × ℕ)) → length (starts at ps) ≡ suc (length ps)
length-starts at [] = refl
length-starts at (p ∷ ps) = ap suc (length-starts (at + p.1) ps)

short : {A : Type 0} (ps : List (A × ℕ)) → All (λ p. 0 < p.1) ps → length ps ≤ size ps
short [] all = omega arith
short (p ∷ ps) all =
    let one : 0 < p.1 = all 0 p (omega arith) in
    let h = short ps (λ k d l. all (suc k) d (omega arith)) in
    omega arith

pub few_starts : {A : Type 0} (ps : List (A × ℕ)) → All (λ p. 0 < p.1) ps → size ps ≤ 2 ^ 24 → length (starts 0 ps) < 2 ^ 32
few_starts ps all le = omega (arith, length-starts 0 ps, short ps all)

-- ---- where a target that is missed stands

abbrev missing : {A : Type 0} → Refusal → Result A Refusal
missing d = Err d

found_err : (place : ℕ) (o : Option ℕ) (d : Refusal) → found_target place o ≡ Err d → d ≡ refusal place reasons.Target
found_err place (Some t) d e = absurd cc
found_err place None d e = cc

cases_within : (ss : List ℕ) (base next : ℕ) (zs : List ℤ) (d : Refusal) → cases_of ss base next zs ≡ Err d → d.place ≤ next
cases_within ss base next [] d e = absurd cc
cases_within ss base next (z ∷ zs) d e =
    elim (bind_err (found_target (next - 3 * suc (length zs)) (target_of ss base z)) (λ t. cases_of ss base next zs >>= λ ts. Ok (t ∷ ts)) d e) [
      | inl h ↦ let p : d.place ≡ next - 3 * suc (length zs) = ap (λ (r : Refusal). r.place) (found_err (next - 3 * suc (length zs)) (target_of ss base z) d h) in omega arith
      | inr a ↦ elim (bind_err (cases_of ss base next zs) (λ ts. Ok (a.0 ∷ ts)) d a.2) [
        | inl h ↦ cases_within ss base next zs d h
        | inr b ↦ absurd (let f = b.2 in cc)
      ]
    ]

instr_within : (ss : List ℕ) (here next : ℕ) (raw : RawInstr) (d : Refusal) → here < next → instr_of ss here next raw ≡ Err d → d.place ≤ next
instr_within ss here next (Same j) d lt e = absurd cc
instr_within ss here next (Branch op z) d lt e =
    elim (bind_err (found_target (here + 1) (target_of ss next z)) (λ t. Ok (instrs.Branch op t)) d e) [
      | inl h ↦ let p : d.place ≡ here + 1 = ap (λ (r : Refusal). r.place) (found_err (here + 1) (target_of ss next z) d h) in omega arith
      | inr a ↦ absurd (let f = a.2 in cc)
    ]
instr_within ss here next (Switch z zs) d lt e =
    elim (bind_err (found_target (here + 1) (target_of ss here z)) (λ t. cases_of ss here next zs >>= λ ts. Ok (instrs.Switch t ts)) d e) [
      | inl h ↦ let p : d.place ≡ here + 1 = ap (λ (r : Refusal). r.place) (found_err (here + 1) (target_of ss here z) d h) in omega arith
      | inr a ↦ elim (bind_err (cases_of ss here next zs) (λ ts. Ok (instrs.Switch a.0 ts)) d a.2) [
        | inl h ↦ cases_within ss here next zs d h
        | inr b ↦ absurd (let f = b.2 in cc)
      ]
    ]

pub missed_within : (ss : List ℕ) (here : ℕ) (ps : List (RawInstr × ℕ)) (d : Refusal) → All (λ p. 0 < p.1) ps → instrs_of ss here ps ≡ Err d → d.place ≤ here + size ps
missed_within ss here [] d all e = absurd cc
missed_within ss here (x ∷ xs) d all e =
    let one : 0 < x.1 = all 0 x (omega arith) in
    elim (bind_err (instr_of ss here (here + x.1) x.0) (λ i. instrs_of ss (here + x.1) xs >>= λ is. Ok (i ∷ is)) d e) [
      | inl h ↦ let le = instr_within ss here (here + x.1) x.0 d (omega arith) h in omega arith
      | inr a ↦ elim (bind_err (instrs_of ss (here + x.1) xs) (λ is. Ok (a.0 ∷ is)) d a.2) [
        | inl h ↦ let le = missed_within ss (here + x.1) xs d (λ k e l. all (suc k) e (omega arith)) h in omega arith
        | inr b ↦ absurd (let f = b.2 in cc)
      ]
    ]

pub resolve_fails : (ps : List (RawInstr × ℕ)) (ss : List ℕ) (at : ℕ) → ss ≡ starts 0 ps → instrs_of ss 0 ps ≡ Err (refusal at reasons.Target) → resolve_targets ps ≡ Err (refusal at reasons.Target)
unfolding resolve_targets
resolve_fails ps ss at e h = let f : instrs_of (starts 0 ps) 0 ps ≡ Err (refusal at reasons.Target) = rw (← e) h in rw f refl
