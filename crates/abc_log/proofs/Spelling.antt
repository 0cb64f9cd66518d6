-- Numbers that are spelled behind spaces.
use Rattle.std.proofs.Common.{◌≡◌, ◌≢◌, ℕ, suc, ◌+◌, ◌<◌, ◌≤◌, ◌%◌, ◌^◌, true, List, [], ◌∷◌, ◌++◌, length, take, drop, get_or, Ok, refl, sym, ap, ap₂, subst, ◌∙◌, arith, append_assoc, drop-cons, length-take-le, take-append-drop}
use Rattle.std.specs.Prelude.{decimal}
use Rattle.std.specs.List.{flat_map, list_all, take_while}
use Rattle.std.specs.Str.Parse.{ParsesUnsigned}
use Rattle.std.specs.Str.{IsUtf8}
use Rattle.std.specs.declared.result.Result.{Result}
use Rattle.std.proofs.lemmas.Bool.{agree_below_at, and_from}
use Rattle.std.proofs.lemmas.Fmt.{IsAscii-decimal, decimal_by_steps, decimal_injective, parse-decimal}
use Rattle.std.proofs.lemmas.Str.{IsUtf8-from_ascii}
use Rattle.std.proofs.lemmas.List.{drop_all, get_or-take}
use Rattle.std.proofs.lemmas.List.Folds.{list_all-append}
use Rattle.abc_log.specs.Lines.{next_number}
use Rattle.abc_log.specs.Limits.{EndsAll, is_limit_digit}
use Rattle.abc_log.proofs.Fronts.{front, front_taken, one_front, rest_ends}

-- ---- the digits of a number

digit_is : (d : ℕ) → d < 10 → is_limit_digit (48 + d) ≡ true
digit_is d small = agree_below_at (λ (n : ℕ). is_limit_digit (48 + n)) (λ (_ : ℕ). true) 10 d refl small

one_digit : (n : ℕ) → n < 10 → list_all is_limit_digit ((48 + n) ∷ []) ≡ true
one_digit n small = and_from (is_limit_digit (48 + n)) true (digit_is n small) refl

more_digit : (n : ℕ) (ds : List ℕ) → list_all is_limit_digit ds ≡ true → list_all is_limit_digit (ds ++ ((48 + n % 10) ∷ [])) ≡ true
more_digit n ds all = list_all-append is_limit_digit ds ((48 + n % 10) ∷ []) ∙ and_from (list_all is_limit_digit ds) (list_all is_limit_digit ((48 + n % 10) ∷ [])) all (one_digit (n % 10) (omega arith))

pub all_digits : (n : ℕ) → n < 2 ^ 64 → list_all is_limit_digit (decimal n) ≡ true
all_digits n small = decimal_by_steps (λ _ ds. list_all is_limit_digit ds ≡ true) one_digit (λ n ds many all. more_digit n ds all) n small

-- ---- bytes that spell no number

pub no_text : (bytes : List ℕ) → (IsUtf8 bytes → ⊥) → (n : ℕ) → n < 2 ^ 32 → bytes ≢ decimal n
no_text bytes none n small e = none (subst IsUtf8 (sym e) (IsUtf8-from_ascii (decimal n) (IsAscii-decimal n (omega (arith, small)))))

-- a number is read from its digits
pub number_read : {E : Type 0} (bytes text : List ℕ) (r : Result ℕ E) (n : ℕ) → text ≡ bytes → ParsesUnsigned 32 10 text r → n < 2 ^ 32 → bytes ≡ decimal n → r ≡ Ok n
number_read bytes text r n same parses small e = parse-decimal 32 n text r small (omega (arith, small)) (same ∙ e) parses

-- ---- a number at the front

pub number_taken : (bytes rest : List ℕ) (count n : ℕ) → bytes ≡ 32 ∷ rest → count ≡ length (take_while is_limit_digit rest) → take count rest ≡ decimal n → bytes ≡ next_number n ++ drop count rest
number_taken bytes rest count n is far same = is ∙ ap (λ (l : List ℕ). 32 ∷ l) (sym (take-append-drop count rest) ∙ ap (λ (l : List ℕ). l ++ drop count rest) same)

pub rest_follows : (rest : List ℕ) (count : ℕ) → count ≡ length (take_while is_limit_digit rest) → EndsAll is_limit_digit (drop count rest)
rest_follows rest count far = subst (λ (k : ℕ). EndsAll is_limit_digit (drop k rest)) (sym far) (rest_ends is_limit_digit rest)

pub no_number : (rest : List ℕ) (count : ℕ) → count ≡ length (take_while is_limit_digit rest) → ((n : ℕ) → n < 2 ^ 32 → take count rest ≢ decimal n) → (n : ℕ) (more : List ℕ) → n < 2 ^ 32 → EndsAll is_limit_digit more → 32 ∷ rest ≢ next_number n ++ more
no_number rest count far none n more small ends e =
    let behind : rest ≡ decimal n ++ more = ap (drop 1) e in
    let digits : take_while is_limit_digit rest ≡ decimal n = ap (take_while is_limit_digit) behind ∙ front is_limit_digit (decimal n) more (all_digits n (omega (arith, small))) ends in
    none n small (ap (λ (k : ℕ). take k rest) far ∙ front_taken is_limit_digit rest ∙ digits)

-- ---- several numbers

tail_ends : (ns more : List ℕ) → EndsAll is_limit_digit more → EndsAll is_limit_digit (flat_map next_number ns ++ more)
tail_ends [] more ends = ends
tail_ends (n ∷ ns) more ends = refl

list_ends : (ns : List ℕ) → EndsAll is_limit_digit (flat_map next_number ns)
list_ends [] = tt
list_ends (n ∷ ns) = refl

-- what stands behind the first numbers of a list is the others
pub others_follow : (found ns rest : List ℕ) → ((k : ℕ) → k < length found → get_or found k 0 < 2 ^ 32) → ((k : ℕ) → k < length ns → get_or ns k 0 < 2 ^ 32) → length found ≤ length ns → (0 < length found → EndsAll is_limit_digit rest)
    → flat_map next_number found ++ rest ≡ flat_map next_number ns → rest ≡ flat_map next_number (drop (length found) ns)
others_follow [] ns rest small_found small few ends e = e
others_follow (a ∷ found) [] rest small_found small few ends e = let none : suc (length found) ≤ 0 = few in absurd (omega arith)
others_follow (a ∷ found) (n ∷ ns) rest small_found small few ends e =
    let some_found : 0 < suc (length found) = omega arith in
    let some : 0 < suc (length ns) = omega arith in
    let a_small : a < 2 ^ 32 = small_found 0 some_found in
    let n_small : n < 2 ^ 32 = small 0 some in
    let fewer : suc (length found) ≤ suc (length ns) = few in
    let parts : decimal a ++ (flat_map next_number found ++ rest) ≡ decimal n ++ flat_map next_number ns = sym (append_assoc (decimal a) (flat_map next_number found) rest) ∙ ap (drop 1) e in
    let behind = one_front is_limit_digit (decimal a) (decimal n) (flat_map next_number found ++ rest) (flat_map next_number ns) (all_digits a (omega (arith, a_small))) (all_digits n (omega (arith, n_small))) (tail_ends found rest (ends some_found)) (list_ends ns) parts in
    others_follow found ns rest (λ k lt. let more : suc k < suc (length found) = omega (arith, lt) in small_found (suc k) more) (λ k lt. let more : suc k < suc (length ns) = omega (arith, lt) in small (suc k) more) (omega (arith, fewer)) (λ some_more. ends some_found) behind.1

-- numbers are spelled in one way
pub one_list : (ns ms : List ℕ) → ((k : ℕ) → k < length ns → get_or ns k 0 < 2 ^ 32) → ((k : ℕ) → k < length ms → get_or ms k 0 < 2 ^ 32) → length ns ≡ length ms → flat_map next_number ns ≡ flat_map next_number ms → ns ≡ ms
one_list [] [] small_ns small_ms long e = refl
one_list [] (m ∷ ms) small_ns small_ms long e = let none : 0 ≡ suc (length ms) = long in absurd (omega arith)
one_list (n ∷ ns) [] small_ns small_ms long e = let none : suc (length ns) ≡ 0 = long in absurd (omega arith)
one_list (n ∷ ns) (m ∷ ms) small_ns small_ms long e =
    let some_n : 0 < suc (length ns) = omega arith in
    let some_m : 0 < suc (length ms) = omega arith in
    let n_small : n < 2 ^ 32 = small_ns 0 some_n in
    let m_small : m < 2 ^ 32 = small_ms 0 some_m in
    let longer : suc (length ns) ≡ suc (length ms) = long in
    let parts : decimal n ++ flat_map next_number ns ≡ decimal m ++ flat_map next_number ms = ap (drop 1) e in
    let both = one_front is_limit_digit (decimal n) (decimal m) (flat_map next_number ns) (flat_map next_number ms) (all_digits n (omega (arith, n_small))) (all_digits m (omega (arith, m_small))) (list_ends ns) (list_ends ms) parts in
    let same : n ≡ m = decimal_injective n m (omega (arith, n_small)) (omega (arith, m_small)) both.0 in
    ap₂ (λ (x : ℕ) (l : List ℕ). x ∷ l) same
    (one_list ns ms (λ k lt. let more : suc k < suc (length ns) = omega (arith, lt) in small_ns (suc k) more) (λ k lt. let more : suc k < suc (length ms) = omega (arith, lt) in small_ms (suc k) more) (omega (arith, longer)) both.1)

-- ---- as far as numbers were read

module _ (bytes rest numbers ns : List ℕ) (k : ℕ) (read : bytes ≡ flat_map next_number (take k numbers) ++ rest) (small_read : (j : ℕ) → j < k → get_or numbers j 0 < 2 ^ 32) (ends : 0 < k → EndsAll is_limit_digit rest)
    (long : length ns ≡ length numbers) (small : (j : ℕ) → j < length ns → get_or ns j 0 < 2 ^ 32) (fits : k ≤ length numbers) where
  rest_is : bytes ≡ flat_map next_number ns → rest ≡ flat_map next_number (drop k ns)
  rest_is e =
      let count : length (take k numbers) ≡ k = length-take-le k numbers fits in
      let front_small : (j : ℕ) → j < length (take k numbers) → get_or (take k numbers) j 0 < 2 ^ 32 = λ j lt.
      let within : j < k = omega (arith, lt, count) in
      subst (λ (x : ℕ). x < 2 ^ 32) (sym (get_or-take k numbers j 0 within)) (small_read j within) in
      subst (λ (n : ℕ). rest ≡ flat_map next_number (drop n ns)) count
      (others_follow (take k numbers) ns rest front_small small (omega (arith, count, long, fits)) (λ some. ends (omega (arith, some, count))) (sym read ∙ e))

  -- where no number follows, these are not they
  pub stops_short : k < length numbers → ((n : ℕ) (more : List ℕ) → n < 2 ^ 32 → EndsAll is_limit_digit more → rest ≢ next_number n ++ more) → bytes ≢ flat_map next_number ns
  stops_short within none e =
      let here : k < length ns = omega (arith, within, long) in
      none (get_or ns k 0) (flat_map next_number (drop (suc k) ns)) (small k here) (list_ends (drop (suc k) ns)) (rest_is e ∙ ap (flat_map next_number) (drop-cons ns k 0 here))

  -- nor where more follows
  pub goes_on : length numbers ≤ k → (length rest ≡ 0 → ⊥) → bytes ≢ flat_map next_number ns
  goes_on all some e =
      let none : drop k ns ≡ [] = drop_all k ns (omega (arith, all, long)) in
      some (ap length (rest_is e ∙ ap (flat_map next_number) none))
