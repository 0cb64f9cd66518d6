-- The formulas of the built-in host are such as a host may have.
use Rattle.std.proofs.Common.{◌≡◌, ℕ, zero, suc, ◌<◌, ◌≤◌, pos, List, ◌∷◌, [], get_or, nat_eq, false, codes, refl, ap, arith}
use Rattle.std.proofs.lemmas.Bool.Decides.{nat_tests}
use Rattle.std.proofs.lemmas.Int.{ints}
use Rattle.std.proofs.lemmas.List.Elements.{All-from_recursion}
use Rattle.abc_base.specs.Hosts.{AreFormulas, IsFormula, IsSmall, taken_names, builtin_formulas, twice, plus}
use Rattle.abc_base.specs.declared.formula.Formula.{Formula}

-- names that differ in their third byte
third : (a b : List ℕ) → nat_eq (get_or a 2 0) (get_or b 2 0) ≡ false → ¬ (a ≡ b)
third a b other e = let h : get_or a 2 0 ≡ get_or b 2 0 = ap (λ (l : List ℕ). get_or l 2 0) e in absurd (grind (arith, nat_tests))

is_small : (n : ℕ) → n ≤ 2 → IsSmall (pos n)
is_small n le = (omega (arith, ints), omega (arith, ints))

twice_formed : IsFormula twice
twice_formed = record {
  short = omega arith;
  free = All-from_recursion (λ (name : List ℕ). ¬ (name ≡ codes "twice")) taken_names
      (third _ _ refl, (third _ _ refl, (third _ _ refl, (third _ _ refl, (third _ _ refl, (third _ _ refl, (third _ _ refl, (third _ _ refl, (third _ _ refl, (third _ _ refl, (third _ _ refl, (third _ _ refl, (third _ _ refl, (third _ _ refl, (third _ _ refl, tt)))))))))))))));
  constant = is_small 0 (omega arith);
  few = omega arith;
  small = All-from_recursion IsSmall (pos 2 ∷ []) (is_small 2 (omega arith), tt);
}

plus_formed : IsFormula plus
plus_formed = record {
  short = omega arith;
  free = All-from_recursion (λ (name : List ℕ). ¬ (name ≡ codes "plus")) taken_names
      (third _ _ refl, (third _ _ refl, (third _ _ refl, (third _ _ refl, (third _ _ refl, (third _ _ refl, (third _ _ refl, (third _ _ refl, (third _ _ refl, (third _ _ refl, (third _ _ refl, (third _ _ refl, (third _ _ refl, (third _ _ refl, (third _ _ refl, tt)))))))))))))));
  constant = is_small 0 (omega arith);
  few = omega arith;
  small = All-from_recursion IsSmall (pos 1 ∷ pos 1 ∷ []) (is_small 1 (omega arith), (is_small 1 (omega arith), tt));
}

distinct : (i j : ℕ) (d : Formula) → i < j → j < 2 → ¬ ((get_or builtin_formulas i d).name ≡ (get_or builtin_formulas j d).name)
distinct zero zero d lt below e = absurd (omega arith)
distinct zero (suc zero) d lt below e = third (codes "twice") (codes "plus") refl e
distinct zero (suc (suc j)) d lt below e = absurd (omega arith)
distinct (suc i) zero d lt below e = absurd (omega arith)
distinct (suc i) (suc j) d lt below e = absurd (omega arith)

pub builtin_formed : AreFormulas builtin_formulas
builtin_formed = record {
  few = omega arith;
  each = All-from_recursion IsFormula builtin_formulas (twice_formed, (plus_formed, tt));
  distinct = distinct;
}
