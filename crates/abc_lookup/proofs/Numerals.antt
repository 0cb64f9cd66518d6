-- Numbers of digits.
use Rattle.std.proofs.Common.{◌≡◌, ℕ, suc, ◌+◌, ◌-◌, ◌*◌, ◌<◌, ◌≤◌, List, [], ◌∷◌, Some, None, cond, drop, drop-cons, get_or, length, sym, ap, ◌∙◌, arith}
use Rattle.std.specs.Prelude.{nat_le, if◌then◌else◌}
use Rattle.std.proofs.lemmas.Bool.{lt-leb}
use Rattle.abc_objects.specs.ElementNames.{number_from}

-- more digits make no less
grows : (n : ℕ) (bs : List ℕ) → n ≤ number_from n bs
grows n [] = omega arith
grows n (b ∷ bs) = let h = grows (n * 10 + (b - 48)) bs in omega arith

-- a number that is too great stays so
pub too_great : (digits : List ℕ) (n i m : ℕ) → i < length digits → number_from n (drop i digits) ≡ number_from 0 digits → m ≡ n * 10 + (get_or digits i 0 - 48) → 4294967294 < m
    → None ≡ (if nat_le (number_from 0 digits) 4294967294 then Some (number_from 0 digits) else None)
too_great digits n i m lt e is great =
    let all : number_from (n * 10 + (get_or digits i 0 - 48)) (drop (suc i) digits) ≡ number_from 0 digits = ap (number_from n) (sym (drop-cons digits i 0 lt)) ∙ e in
    let h = grows (n * 10 + (get_or digits i 0 - 48)) (drop (suc i) digits) in
    let big : 4294967294 < number_from 0 digits = omega (arith, is, great, h, all) in
    ap (λ b. cond b (Some (number_from 0 digits)) None) (sym (lt-leb (number_from 0 digits) 4294967294 big))
