-- The line before a file, as far as it is right.
use Rattle.std.proofs.Common.{◌≡◌, ℕ, zero, suc, ◌+◌, ◌-◌, ◌*◌, ◌<◌, ◌≤◌, ◌/◌, ◌%◌, ◌^◌, Bool, true, false, List, [], ◌∷◌, ◌++◌, length, Some, None, refl, sym, ap, subst, ◌∙◌, arith, add-one, add-zero, append_assoc, length-append}
use Rattle.std.specs.Prelude.{nat_eq, nat_le, ◌&&◌, if◌then◌else◌}
use Rattle.std.proofs.lemmas.Bool.{agree_below_at, and_parts, false_from_ne_true, le-ltb, leb-true, lt-ltb, or_from}
use Rattle.std.proofs.KnownBytes.{Consumes-trans}
use Rattle.std.proofs.Math.Nat.{pow-le-pow_right}
use Rattle.std.proofs.lemmas.Nat.{pow-add}
use Rattle.std.specs.Io.KnownBytes.{Consumes}
use Rattle.std.specs.declared.option.Option.{Option}
use Rattle.abc_base.specs.Escapes.{hex_digit}
use Rattle.abc_log.specs.Lines.{head_line, hex_digits}
use Rattle.abc_log.specs.Bytes.{GivesNext}
use Rattle.abc_log.specs.Heads.{AllStand, IsHeadStop, is_lower_hex, may_stand}
use Rattle.abc_log.specs.declared.errors.HeadError.{HeadError}
use Rattle.abc_log.specs.declared.errors.HeadError.TheVariants.{ReadFault, Wrong}

-- ---- digits

pub digit_stands : (place d : ℕ) → place < 8 → d < 16 → may_stand place (hex_digit d) ≡ true
digit_stands place d early small =
    ap (λ (t : Bool). if t then is_lower_hex (hex_digit d) else nat_eq (hex_digit d) 10) (lt-ltb place 8 early) ∙ agree_below_at (λ (n : ℕ). is_lower_hex (hex_digit n)) (λ (_ : ℕ). true) 16 d refl small

pub other_stands_not : (place b : ℕ) → place < 8 → is_lower_hex b ≡ false → may_stand place b ≡ false
other_stands_not place b early e = ap (λ (t : Bool). if t then is_lower_hex b else nat_eq b 10) (lt-ltb place 8 early) ∙ e

pub length-hex_digits : (k n : ℕ) → length (hex_digits k n) ≡ k
unfolding hex_digits
length-hex_digits zero n = refl
length-hex_digits (suc k) n =
    let far : length (hex_digits k (n / 16) ++ hex_digit (n % 16) ∷ []) ≡ length (hex_digits k (n / 16)) + 1 = length-append (hex_digits k (n / 16)) (hex_digit (n % 16) ∷ []) in
    let last : length (hex_digits k (n / 16)) + 1 ≡ suc k = omega (arith, length-hex_digits k (n / 16)) in
    far ∙ last

pub AllStand-append : (from : ℕ) (xs ys : List ℕ) → AllStand from xs → AllStand (from + length xs) ys → AllStand from (xs ++ ys)
AllStand-append from [] ys all more = subst (λ (k : ℕ). AllStand k ys) (add-zero from) more
AllStand-append from (x ∷ xs) ys all more =
    let far : from + suc (length xs) ≡ suc from + length xs = omega arith in
    (all.0, AllStand-append (suc from) xs ys all.1 (subst (λ (k : ℕ). AllStand k ys) far more))

pub digits_stand : (k from n : ℕ) → from + k ≤ 8 → AllStand from (hex_digits k n)
unfolding hex_digits
digits_stand zero from n few = tt
digits_stand (suc k) from n few =
    let far : from + length (hex_digits k (n / 16)) ≡ from + k = ap (λ (j : ℕ). from + j) (length-hex_digits k (n / 16)) in
    AllStand-append from (hex_digits k (n / 16)) (hex_digit (n % 16) ∷ []) (digits_stand k from (n / 16) (omega (arith, few))) (subst (λ (j : ℕ). AllStand j (hex_digit (n % 16) ∷ [])) (sym far) (digit_stands (from + k) (n % 16) (omega (arith, few)) (omega arith), tt))

-- one digit more
pub digits_more : (k n d : ℕ) → d < 16 → hex_digits (suc k) (n * 16 + d) ≡ hex_digits k n ++ hex_digit d ∷ []
unfolding hex_digits
digits_more k n d small =
    let high : (n * 16 + d) / 16 ≡ n = omega arith in
    let low : (n * 16 + d) % 16 ≡ d = omega arith in
    ap (λ (j : ℕ). hex_digits k j ++ hex_digit ((n * 16 + d) % 16) ∷ []) high ∙ ap (λ (j : ℕ). hex_digits k n ++ hex_digit j ∷ []) low

-- the number of the digits grows within its bound
pub digit_fits : (k n d : ℕ) → k < 8 → n < 16 ^ k → d < 16 → (n * 16 + d < 2 ^ 32) × (n * 16 + d < 16 ^ (k + 1))
digit_fits k n d early small digit =
    let next : 16 ^ (k + 1) ≡ 16 ^ k * 16 = pow-add 16 k 1 in
    let below : n * 16 + d < 16 ^ k * 16 = omega arith in
    let more : k + 1 ≤ 8 = omega arith in
    let most : 16 ^ (k + 1) ≤ 16 ^ 8 = pow-le-pow_right (omega arith) more in
    (omega (arith, next, below, most), omega (arith, next, below))

-- ---- the value of a digit

pub low_digit : (b : ℕ) → 48 ≤ b → b ≤ 57 → b ≡ hex_digit (b - 48)
low_digit b low high =
    let small : b - 48 < 10 = omega arith in
    let is : b ≡ 48 + (b - 48) = omega arith in
    is ∙ sym (ap (λ (t : Bool). if t then 48 + (b - 48) else 87 + (b - 48)) (lt-ltb (b - 48) 10 small))

pub high_digit : (b : ℕ) → 97 ≤ b → b ≤ 102 → b ≡ hex_digit (b - 97 + 10)
high_digit b low high =
    let many : 10 ≤ b - 97 + 10 = omega arith in
    let is : b ≡ 87 + (b - 97 + 10) = omega arith in
    is ∙ sym (ap (λ (t : Bool). if t then 48 + (b - 97 + 10) else 87 + (b - 97 + 10)) (le-ltb (b - 97 + 10) 10 many))

pub no_digit : (b : ℕ) → (48 ≤ b → b ≤ 57 → ⊥) → (97 ≤ b → b ≤ 102 → ⊥) → is_lower_hex b ≡ false
no_digit b low high =
    or_from (nat_le 48 b && nat_le b 57) (nat_le 97 b && nat_le b 102)
    (false_from_ne_true (nat_le 48 b && nat_le b 57) (λ e. let p = and_parts (nat_le 48 b) (nat_le b 57) e in low (leb-true 48 b p.0) (leb-true b 57 p.1)))
    (false_from_ne_true (nat_le 97 b && nat_le b 102) (λ e. let p = and_parts (nat_le 97 b) (nat_le b 102) e in high (leb-true 97 b p.0) (leb-true b 102 p.1)))

-- ---- where it is wrong

pub missing_here : (place : ℕ) (old new : Option (List ℕ)) → place < 9 → GivesNext old new None → IsHeadStop place old (Wrong place)
missing_here place None new within g = (within, tt)
missing_here place (Some xs) None within g = absurd g.taken
missing_here place (Some xs) (Some ys) within g = (within, record { right = []; rest = []; parts = g.taken ∙ g.end refl; far = sym (add-zero place); within = within; stand = tt; wrong = tt })

pub wrong_here : (place b : ℕ) (old new : Option (List ℕ)) → place < 9 → GivesNext old new (Some b) → may_stand place b ≡ false → IsHeadStop place old (Wrong place)
wrong_here place b None new within g e = (within, tt)
wrong_here place b (Some xs) None within g e = absurd g.taken
wrong_here place b (Some xs) (Some ys) within g e = (within, record { right = []; rest = b ∷ ys; parts = g.taken; far = sym (add-zero place); within = within; stand = tt; wrong = e })

-- what is wrong further on is wrong from the beginning on
pub further : (from k : ℕ) (old mid : Option (List ℕ)) (right : List ℕ) (e : HeadError) → Consumes old mid right → AllStand from right → k ≡ from + length right → IsHeadStop k mid e → IsHeadStop from old e
further from k None mid right (Wrong place) taken stand far w = (w.0, tt)
further from k (Some xs) None right (Wrong place) taken stand far w = absurd taken
further from k (Some xs) (Some ys) right (Wrong place) taken stand far w = (
  w.0,
  record {
    right = right ++ w.1.right;
    rest = w.1.rest;
    parts = taken ∙ ap (λ (l : List ℕ). right ++ l) w.1.parts ∙ sym (append_assoc right w.1.right w.1.rest);
    far = omega (arith, w.1.far, far, length-append right w.1.right);
    within = w.1.within;
    stand = AllStand-append from right w.1.right stand (subst (λ (j : ℕ). AllStand j w.1.right) far w.1.stand);
    wrong = w.1.wrong;
  },
)
further from k old mid right ReadFault taken stand far w = tt

-- the same behind so many digits
pub behind_digits : (k n : ℕ) (old mid : Option (List ℕ)) (e : HeadError) → k ≤ 8 → Consumes old mid (hex_digits k n) → IsHeadStop k mid e → IsHeadStop 0 old e
behind_digits k n old mid e few taken w =
    let far : k ≡ 0 + length (hex_digits k n) = omega (arith, length-hex_digits k n) in
    further 0 k old mid (hex_digits k n) e taken (digits_stand k 0 n (omega (arith, few))) far w

-- the line with its end
pub whole_head : (n : ℕ) (old mid new : Option (List ℕ)) → Consumes old mid (hex_digits 8 n) → Consumes mid new (10 ∷ []) → Consumes old new (head_line n)
unfolding head_line
whole_head n old mid new digits feed = Consumes-trans old mid new (hex_digits 8 n) (10 ∷ []) digits feed

pub digits_and : (k n d : ℕ) (old mid new : Option (List ℕ)) → d < 16 → Consumes old mid (hex_digits k n) → Consumes mid new (hex_digit d ∷ []) → Consumes old new (hex_digits (k + 1) (n * 16 + d))
digits_and k n d old mid new small digits digit =
    let next : hex_digits (k + 1) (n * 16 + d) ≡ hex_digits k n ++ hex_digit d ∷ [] = ap (λ (j : ℕ). hex_digits j (n * 16 + d)) (add-one k) ∙ digits_more k n d small in
    subst (Consumes old new) (sym next) (Consumes-trans old mid new (hex_digits k n) (hex_digit d ∷ []) digits digit)
