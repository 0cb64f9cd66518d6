-- How many digits a number has, and numbers with zeros in front.
use Rattle.std.proofs.Common.{◌≡◌, ℕ, zero, suc, ◌+◌, ◌-◌, ◌*◌, ◌/◌, ◌%◌, ◌^◌, ◌<◌, ◌≤◌, leb, List, [], ◌∷◌, ◌++◌, length, take, drop, set, ℤ, pos, negsuc, int_lt, unsigned_abs, inl, inr, refl, sym, ap, ◌∙◌, take_all, drop_at, drop-drop, append_assoc, length-append, length-drop, length-take-le, le-leb, le-ltb, drop-set-lt, decimal, arith}
use Rattle.std.proofs.lemmas.Bool.{cases_lt, lt-leb}
use Rattle.std.proofs.lemmas.Fmt.{decimal_digit, decimal_nonempty, decimal_step, length-decimal-le}
use Rattle.std.proofs.lemmas.List.{drop-append-le, drop-set}
use Rattle.std.specs.Fmt.{signed_decimal}
use Rattle.abc_text_writer.proofs.Pieces.{window}
use Rattle.itoa.proofs.Decimal.{decimal_pair, decimal_two, pair}
use mir.Val.{bool_byte}

-- ---- how many digits

some_power : (k : ℕ) → 0 < 10 ^ k
some_power zero = omega arith
some_power (suc k) = omega (arith, some_power k)

at_least : (k n : ℕ) → n < 2 ^ 64 → 10 ^ k ≤ n → k < length (decimal n)
at_least zero n small le = decimal_nonempty n small
at_least (suc k) n small le =
    let some = some_power k in
    let long : length (decimal n) ≡ length (decimal (n / 10)) + 1 = ap length (decimal_step n (omega arith) small) ∙ length-append _ _ in
    omega (arith, long, at_least k (n / 10) (omega arith) (omega arith))

-- a digit more, if the number has one
more : (k n s : ℕ) → 0 < k → n < 2 ^ 64 → s ≡ length (take k (decimal n)) → s + bool_byte (leb (10 ^ k) n) ≡ length (take (suc k) (decimal n))
more k n s some small e =
    elim (cases_lt n (10 ^ k)) [
      | inl less ↦
          let all = length-decimal-le k n some less small in
          rw (lt-leb (10 ^ k) n less, take_all (suc k) (decimal n) (omega arith)) (omega (arith, e, ap length (take_all k (decimal n) all)))
      | inr le ↦
          let long = at_least k n small le in
          rw (le-leb (10 ^ k) n le) (omega (arith, e, length-take-le k (decimal n) (omega arith), length-take-le (suc k) (decimal n) long))
    ]

pub count : (n : ℕ) → n < 2 ^ 32 → 1 + bool_byte (leb 10 n) + bool_byte (leb 100 n) + bool_byte (leb 1000 n) + bool_byte (leb 10000 n) + bool_byte (leb 100000 n) + bool_byte (leb 1000000 n) + bool_byte (leb 10000000 n) + bool_byte (leb 100000000 n) + bool_byte (leb 1000000000 n) ≡ length (decimal n)
count n less =
    let small : n < 2 ^ 64 = omega arith in
    let s1 = sym (length-take-le 1 (decimal n) (decimal_nonempty n small)) in
    let s2 = more 1 n 1 (omega arith) small s1 in
    let s3 = more 2 n _ (omega arith) small s2 in
    let s4 = more 3 n _ (omega arith) small s3 in
    let s5 = more 4 n _ (omega arith) small s4 in
    let s6 = more 5 n _ (omega arith) small s5 in
    let s7 = more 6 n _ (omega arith) small s6 in
    let s8 = more 7 n _ (omega arith) small s7 in
    let s9 = more 8 n _ (omega arith) small s8 in
    let s10 = more 9 n _ (omega arith) small s9 in
    s10 ∙ ap length (take_all 10 (decimal n) (length-decimal-le 10 n (omega arith) (omega arith) small))

-- ---- zeros in front

-- a number by its pairs of digits
pairs : ℕ → ℕ → List ℕ
pairs zero n = []
pairs (suc k) n = pairs k (n / 100) ++ pair (n % 100)

length_pairs : (k n : ℕ) → length (pairs k n) ≡ 2 * k
unfolding pairs
length_pairs zero n = refl
length_pairs (suc k) n = omega (arith, length-append (pairs k (n / 100)) (pair (n % 100)), length_pairs k (n / 100))

-- what stands behind the first ones
last_pair : (k n : ℕ) → drop (2 * k) (pairs (suc k) n) ≡ pair (n % 100)
unfolding pairs
last_pair k n = drop_at (pairs k (n / 100)) (pair (n % 100)) (2 * k) (length_pairs k (n / 100))

-- a number of at most two digits
short : (k n gap : ℕ) → n < 100 → gap + length (decimal n) ≡ 2 * suc k → drop gap (pairs (suc k) n) ≡ decimal n
short k n gap less e =
    elim (cases_lt n 10) [
      | inl one ↦
          let long : gap ≡ 2 * k + 1 = omega (arith, e, ap length (decimal_digit n one)) in
          let digit : 48 + n % 100 % 10 ≡ 48 + n = omega arith in
          ap (λ g. drop g (pairs (suc k) n)) long ∙ sym (drop-drop 1 (2 * k) (pairs (suc k) n)) ∙ ap (drop 1) (last_pair k n) ∙ ap (λ (x : ℕ). x ∷ []) digit ∙ sym (decimal_digit n one)
      | inr two ↦
          let long : gap ≡ 2 * k = omega (arith, e, ap length (decimal_two n two less)) in
          let same : n % 100 ≡ n = omega arith in
          ap (λ g. drop g (pairs (suc k) n)) long ∙ last_pair k n ∙ ap pair same ∙ sym (decimal_two n two less)
    ]

-- behind the zeros stands the number
padded : (k n gap : ℕ) → n < 100 ^ suc k → n < 2 ^ 64 → gap + length (decimal n) ≡ 2 * suc k → drop gap (pairs (suc k) n) ≡ decimal n
unfolding pairs
padded zero n gap fits small e = short zero n gap fits e
padded (suc k) n gap fits small e =
    elim (cases_lt n 100) [
      | inl less ↦ short (suc k) n gap less e
      | inr le ↦
          let front = decimal_pair n le small in
          let long : gap + length (decimal (n / 100)) ≡ 2 * suc k = omega (arith, e, ap length front ∙ length-append (decimal (n / 100)) (pair (n % 100))) in
          drop-append-le gap (pairs (suc k) (n / 100)) (pair (n % 100)) (omega (arith, long, length_pairs (suc k) (n / 100)))
          ∙ ap (λ (l : List ℕ). l ++ pair (n % 100)) (padded k (n / 100) gap (omega arith) (omega arith) long)
          ∙ sym front
    ]

abbrev pub four : ℕ → List ℕ → List ℕ
four n rest = (48 + n / 100 / 10) ∷ (48 + n / 100 % 10) ∷ (48 + n % 100 / 10) ∷ (48 + n % 100 % 10) ∷ rest

abbrev pub ten : ℕ → List ℕ → List ℕ
ten n rest = (48 + n / 100000000 / 10) ∷ (48 + n / 100000000 % 10) ∷ four (n / 10000 % 10000) (four (n % 10000) rest)

ten_is : (n : ℕ) → n < 2 ^ 32 → pairs 5 n ≡ ten n []
unfolding pairs
ten_is n less =
    let a : n / 100 / 100 / 100 / 100 % 100 ≡ n / 100000000 = omega arith in
    let b : n / 100 / 100 / 100 % 100 ≡ n / 10000 % 10000 / 100 = omega arith in
    let c : n / 100 / 100 % 100 ≡ n / 10000 % 10000 % 100 = omega arith in
    let d : n / 100 % 100 ≡ n % 10000 / 100 = omega arith in
    let e : n % 100 ≡ n % 10000 % 100 = omega arith in
    λ i. pair (a i) ++ (pair (b i) ++ (pair (c i) ++ (pair (d i) ++ pair (e i))))

-- the digits that a number has, of ten that are written
pub behind_zeros : (new rest : List ℕ) (n at : ℕ) → n < 2 ^ 32 → at + length (decimal n) ≡ 16 → 6 ≤ at → drop 6 new ≡ ten n rest → drop at new ≡ decimal n ++ rest
behind_zeros new rest n at less e within written =
    let is = ten_is n less in
    let gap : at - 6 + length (decimal n) ≡ 10 = omega (arith, e) in
    let place : at ≡ 6 + (at - 6) = omega arith in
    ap (λ g. drop g new) place ∙ sym (drop-drop (at - 6) 6 new) ∙ ap (drop (at - 6)) (written ∙ ap (λ (l : List ℕ). l ++ rest) (sym is))
    ∙ drop-append-le (at - 6) (pairs 5 n) rest (omega (arith, gap, length_pairs 5 n))
    ∙ ap (λ (l : List ℕ). l ++ rest) (padded 4 n (at - 6) (omega arith) (omega arith) gap)

-- ---- signs

pub signed_start : (z : ℤ) (at : ℕ) → 6 ≤ at → at + length (decimal (unsigned_abs z)) ≡ 16 → at - bool_byte (int_lt z (pos 0)) + length (signed_decimal z) ≡ 16
signed_start (pos n) at room e = rw (le-ltb n 0 (omega arith)) (omega (arith, e))
signed_start (negsuc n) at room e = omega (arith, e)

pub signed_written : (z : ℤ) (piece rest : List ℕ) (at : ℕ) → 0 < at → at ≤ length piece → drop at piece ≡ decimal (unsigned_abs z) ++ rest → drop (at - bool_byte (int_lt z (pos 0))) (set piece (at - 1) 45) ≡ signed_decimal z ++ rest
signed_written (pos n) piece rest at some within e =
    let none : at - 0 ≡ at = omega arith in
    rw (le-ltb n 0 (omega arith)) (ap (λ g. drop g (set piece (at - 1) 45)) none ∙ drop-set-lt at piece (at - 1) 45 (omega arith) ∙ e)
signed_written (negsuc n) piece rest at some within e =
    let next : at - 1 + 1 ≡ at = omega arith in
    drop-set piece (at - 1) 45 (omega arith) ∙ ap (λ g. 45 ∷ drop g piece) next ∙ ap (λ (l : List ℕ). 45 ∷ l) e

-- a line that ends at the place 16 of a piece
pub line : (piece text rest : List ℕ) (at : ℕ) → length piece ≡ 32 → drop at piece ≡ text ++ 0x0a ∷ rest → at + length text ≡ 16 → 0 < at → take (17 - at) (take (at + 16 - at) (drop at piece)) ≡ text ++ 0x0a ∷ []
line piece text rest at long written e some =
    let ends : text ++ 0x0a ∷ rest ≡ (text ++ 0x0a ∷ []) ++ rest = sym (append_assoc text (0x0a ∷ []) rest) in
    window piece (text ++ 0x0a ∷ []) rest at (at + 16 - at) (17 - at) (written ∙ ends) (omega (arith, e, length-append text (0x0a ∷ []))) (omega (arith, e, some)) (omega (arith, e, long, length-drop at piece))
