-- What becomes of the flags in a step.
use Rattle.std.proofs.Common.{◌≡◌, ◌⊎◌, ℕ, zero, suc, ◌+◌, ◌<◌, Bool, true, false, List, [], ◌∷◌, length, drop, get_or, Some, None, refl, sym, ap, ◌∙◌, inl, inr, arith, add-zero, drop-cons}
use Rattle.std.proofs.Math.ListN.{set, length-set}
use Rattle.abc_log.specs.Starts.{IsOneMore, started_from}

-- ---- flag by flag

none_starts : (n : ℕ) (bs : List Bool) → started_from n bs bs ≡ None
none_starts n [] = refl
none_starts n (true ∷ bs) = none_starts (suc n) bs
none_starts n (false ∷ bs) = none_starts (suc n) bs

-- with a flag that is set, that is the script, or nothing changed
abbrev pub Sets : (n k : ℕ) → List Bool → Type 0
Sets n k bs = ((started_from n bs (set bs k true) ≡ None) × (set bs k true ≡ bs)) ⊎ ((started_from n bs (set bs k true) ≡ Some (n + k)) × (k < length bs))

behind : (n k : ℕ) (b : Bool) (bs : List Bool) → started_from n (b ∷ bs) (b ∷ set bs k true) ≡ started_from (suc n) bs (set bs k true) → Sets (suc n) k bs → Sets n (suc k) (b ∷ bs)
behind n k b bs e (inl p) = inl (e ∙ p.0, ap (λ (l : List Bool). b ∷ l) p.1)
behind n k b bs e (inr p) = let far : suc n + k ≡ n + suc k = omega arith in inr (e ∙ p.0 ∙ ap Some far, omega (arith, p.1))

pub sets : (n k : ℕ) (bs : List Bool) → Sets n k bs
sets n k [] = inl (refl, refl)
sets n zero (true ∷ bs) = inl (none_starts (suc n) bs, refl)
sets n zero (false ∷ bs) = inr (ap Some (sym (add-zero n)), omega arith)
sets n (suc k) (true ∷ bs) = behind n k true bs refl (sets (suc n) k bs)
sets n (suc k) (false ∷ bs) = behind n k false bs refl (sets (suc n) k bs)

-- ---- a note

none_at : (before : List Bool) (k : ℕ) → started_from 0 before (set before k true) ≡ None → Sets 0 k before → set before k true ≡ before
none_at before k e (inl p) = p.1
none_at before k e (inr p) = absurd (cc)

-- without a script nothing changed
pub none_noted : (before now : List Bool) → IsOneMore before now → started_from 0 before now ≡ None → before ≡ now
none_noted before now (inl same) e = sym same
none_noted before now (inr more) e = sym (more.1 ∙ none_at before more.0 (ap (started_from 0 before) (sym more.1) ∙ e) (sets 0 more.0 before))

some_at : (before : List Bool) (k s : ℕ) → started_from 0 before (set before k true) ≡ Some s → Sets 0 k before → (s ≡ k) × (k < length before)
some_at before k s e (inl p) = absurd (cc)
some_at before k s e (inr p) = let same : s ≡ 0 + k = cc in (omega (arith, same), p.1)

-- with one its flag is set
pub some_noted : (before now : List Bool) (s : ℕ) → IsOneMore before now → started_from 0 before now ≡ Some s → (set before s true ≡ now) × (s < length before)
some_noted before now s (inl same) e =
    let none = none_starts 0 before in
    let other : None ≡ Some s = sym none ∙ ap (started_from 0 before) (sym same) ∙ e in
    absurd (cc)
some_noted before now s (inr more) e =
    let at = some_at before more.0 s (ap (started_from 0 before) (sym more.1) ∙ e) (sets 0 more.0 before) in
    (ap (λ (k : ℕ). set before k true) at.0 ∙ sym more.1, omega (arith, at.0, at.1))

pub same_length : (before now : List Bool) → IsOneMore before now → length before ≡ length now
same_length before now (inl same) = ap length (sym same)
same_length before now (inr more) = sym (ap length more.1 ∙ length-set before more.0 true)

-- ---- the loop

heads : (n : ℕ) (x y : Bool) (xs ys : List Bool) → (x ≡ false → y ≡ true → ⊥) → started_from n (x ∷ xs) (y ∷ ys) ≡ started_from (suc n) xs ys
heads n true y xs ys never = refl
heads n false false xs ys never = refl
heads n false true xs ys never = absurd (never refl refl)

pub passed : (n : ℕ) (xs ys : List Bool) → n < length xs → n < length ys → (get_or xs n false ≡ false → get_or ys n false ≡ true → ⊥) → started_from n (drop n xs) (drop n ys) ≡ started_from (suc n) (drop (suc n) xs) (drop (suc n) ys)
passed n xs ys lt_xs lt_ys never =
    ap (λ (l : List Bool). started_from n l (drop n ys)) (drop-cons xs n false lt_xs) ∙ ap (started_from n (get_or xs n false ∷ drop (suc n) xs)) (drop-cons ys n false lt_ys)
    ∙ heads n (get_or xs n false) (get_or ys n false) (drop (suc n) xs) (drop (suc n) ys) never

pub stopped : (n : ℕ) (xs ys : List Bool) → n < length xs → n < length ys → get_or xs n false ≡ false → get_or ys n false ≡ true → started_from n (drop n xs) (drop n ys) ≡ Some n
stopped n xs ys lt_xs lt_ys x y =
    ap (λ (l : List Bool). started_from n l (drop n ys)) (drop-cons xs n false lt_xs) ∙ ap (started_from n (get_or xs n false ∷ drop (suc n) xs)) (drop-cons ys n false lt_ys)
    ∙ ap (λ (b : Bool). started_from n (b ∷ drop (suc n) xs) (get_or ys n false ∷ drop (suc n) ys)) x ∙ ap (λ (b : Bool). started_from n (false ∷ drop (suc n) xs) (b ∷ drop (suc n) ys)) y
