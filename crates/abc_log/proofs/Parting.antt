-- Where bytes part from others.
use Rattle.std.proofs.Common.{◌≡◌, ◌≢◌, ℕ, zero, suc, ◌+◌, ◌<◌, Bool, true, false, List, [], ◌∷◌, ◌++◌, length, take, Some, None, refl, sym, ap, ◌∙◌, arith, add-zero}
use Rattle.std.specs.Prelude.{nat_eq, if◌then◌else◌}
use Rattle.std.specs.declared.option.Option.{Option}
use Rattle.std.proofs.lemmas.Bool.{eq-eqb}
use Rattle.abc_log.specs.Followed.{parts_from}

same_byte : (b : ℕ) (o p : Option ℕ) → (if nat_eq b b then o else p) ≡ o
same_byte b o p = ap (λ (t : Bool). if t then o else p) (eq-eqb b b refl)

-- where bytes part from the front of others, they part from those
pub parts_longer : (i k : ℕ) (found front more : List ℕ) → parts_from i found front ≡ Some k → k < i + length front → parts_from i found (front ++ more) ≡ Some k
parts_longer i k [] [] more e lt = let clash : None ≡ Some k = e in cc
parts_longer i k [] (w ∷ front) more e lt = e
parts_longer i k (b ∷ found) [] more e lt =
    let same : Some i ≡ Some k = e in
    let here : i ≡ k = cc in
    let below : k < i + 0 = lt in
    absurd (omega arith)
parts_longer i k (b ∷ found) (w ∷ front) more e lt =
    let below : k < i + suc (length front) = lt in
    go (nat_eq b w) (λ f. parts_longer (suc i) k found front more f (omega (arith, below))) e
  where
    go : (t : Bool) → (parts_from (suc i) found front ≡ Some k → parts_from (suc i) found (front ++ more) ≡ Some k) → (if t then parts_from (suc i) found front else Some i) ≡ Some k → (if t then parts_from (suc i) found (front ++ more) else Some i) ≡ Some k
    go true on f = on f
    go false on f = f

-- a front of bytes parts from them where it ends
pub front_parts : (i n : ℕ) (lines : List ℕ) → n < length lines → parts_from i (take n lines) lines ≡ Some (i + n)
front_parts i n [] lt = absurd (omega (arith, lt))
front_parts i zero (w ∷ lines) lt = ap Some (sym (add-zero i))
front_parts i (suc n) (w ∷ lines) lt =
    let below : suc n < suc (length lines) = lt in
    let far : suc i + n ≡ i + suc n = omega arith in
    same_byte w (parts_from (suc i) (take n lines) lines) (Some i) ∙ front_parts (suc i) n lines (omega (arith, below)) ∙ ap Some far

-- and so do bytes with some behind them
pub longer_parts : (i : ℕ) (lines rest : List ℕ) → rest ≢ [] → parts_from i (lines ++ rest) lines ≡ Some (i + length lines)
longer_parts i [] [] some = absurd (some refl)
longer_parts i [] (b ∷ rest) some = ap Some (sym (add-zero i))
longer_parts i (w ∷ lines) rest some =
    let far : suc i + length lines ≡ i + suc (length lines) = omega arith in
    same_byte w (parts_from (suc i) (lines ++ rest) lines) (Some i) ∙ longer_parts (suc i) lines rest some ∙ ap Some far
