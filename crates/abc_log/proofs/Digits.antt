-- The digits of a number to the base of sixteen, from the last on.
use Rattle.std.proofs.Common.{◌≡◌, ℕ, zero, suc, ◌-◌, ◌<◌, ◌/◌, ◌%◌, List, [], ◌∷◌, ◌++◌, Some, None, refl, ap, sym, ◌∙◌, arith}
use Rattle.std.proofs.lemmas.List.{append-nil}
use Rattle.std.specs.declared.option.Option.{Option}
use Rattle.std.specs.Io.KnownBytes.{append_known}
use Rattle.abc_base.specs.Escapes.{hex_digit}
use Rattle.abc_log.specs.Lines.{hex_digits}

pub no_digits : (k n : ℕ) → k ≡ 0 → hex_digits k n ≡ []
unfolding hex_digits
no_digits zero n e = refl
no_digits (suc k) n e = absurd (omega (arith, e))

pub more_digits : (k n : ℕ) → 0 < k → hex_digits k n ≡ hex_digits (k - 1) (n / 16) ++ hex_digit (n % 16) ∷ []
unfolding hex_digits
more_digits zero n lt = absurd (omega (arith, lt))
more_digits (suc k) n lt =
    let less : suc k - 1 ≡ k = omega arith in
    ap (λ (j : ℕ). hex_digits j (n / 16) ++ hex_digit (n % 16) ∷ []) (sym less)

-- where nothing is written what was written stays
pub nothing_added : (known : Option (List ℕ)) (bytes : List ℕ) → bytes ≡ [] → known ≡ append_known known bytes
nothing_added None bytes e = refl
nothing_added (Some xs) bytes e = ap Some (sym (ap (λ (l : List ℕ). xs ++ l) e ∙ append-nil xs))

pub ruleset digits = (no_digits, more_digits)
