-- The formulas of a host (profile: docs/EMBEDDING.md, "The host").
use Rattle.std.specs.Prelude.{◌≡◌, ℕ, ◌-◌, ◌^◌, ◌≤◌, ℤ, pos, negsuc, ◌+ℤ◌, ◌*ℤ◌, ◌≤ℤ◌, int_le, ◌&&◌, List, [], ◌∷◌, length, take, get_or, map, codes, All, AllPairs, Some, None, if◌then◌else◌}
use Rattle.std.specs.declared.option.Option.{Option}
use Rattle.abc_base.specs.Names.{class_name, host_classes}
use Rattle.abc_base.specs.declared.formula.Formula.{Formula}
use Rattle.abc_base.specs.declared.plain.Plain.{Plain}

-- ---- what a formula gives

-- the numbers that a call hands over
abbrev pub plain_arguments : Plain → List ℤ
plain_arguments args = take args.count (args.a ∷ args.b ∷ args.c ∷ args.d ∷ [])

-- the sum of x times y over the pairs of two lists
abbrev pub sum_of_products : List ℤ → List ℤ → ℤ
sum_of_products [] ys = pos 0
sum_of_products (x ∷ xs) [] = pos 0
sum_of_products (x ∷ xs) (y ∷ ys) = (x *ℤ y) +ℤ sum_of_products xs ys

-- the constant, and each factor times its argument
abbrev pub value_of : Formula → List ℤ → ℤ
value_of formula args = formula.constant +ℤ sum_of_products formula.factors args

-- a value from -2147483648 to 4294967295, and no other
abbrev pub number_or_none : ℤ → Option ℤ
number_or_none z = if int_le (negsuc 2147483647) z && int_le z (pos 4294967295) then Some z else None

-- what a call of a formula gives
abbrev pub answer_of : Formula → Plain → Option ℤ
answer_of formula args = number_or_none (value_of formula (plain_arguments args))

-- the formula of a number, and one with nothing past the list's end
abbrev pub formula_at : List Formula → ℕ → Formula
formula_at formulas id = get_or formulas id (record { name = []; constant = pos 0; factors = [] })

-- ---- which formulas a host may have

-- what stands beside the formulas in the host object
abbrev pub taken_names : List (List ℕ)
taken_names = codes "trace" ∷ map class_name host_classes

-- from -2^31 to 2^31
abbrev pub IsSmall : ℤ → Type 0
IsSmall z = (negsuc (2 ^ 31 - 1) ≤ℤ z) × (z ≤ℤ pos (2 ^ 31))

pub record IsFormula (formula : Formula) : Type 0 where
  pub short : length formula.name ≤ 64
  pub free : All (λ name. ¬ (name ≡ formula.name)) taken_names
  pub constant : IsSmall formula.constant
  pub few : length formula.factors ≤ 4
  pub small : All IsSmall formula.factors

-- at most 64 formulas, and no two of one name
pub record AreFormulas (formulas : List Formula) : Type 0 where
  pub few : length formulas ≤ 64
  pub each : All IsFormula formulas
  pub distinct : AllPairs (λ f g. ¬ (f.name ≡ g.name)) formulas

-- ---- the formulas of the built-in host

abbrev pub twice : Formula
twice = record { name = codes "twice"; constant = pos 0; factors = pos 2 ∷ [] }

abbrev pub plus : Formula
plus = record { name = codes "plus"; constant = pos 0; factors = pos 1 ∷ pos 1 ∷ [] }

-- the formulas of the built-in host: `twice` is number 0, and `plus` number 1
abbrev pub builtin_formulas : List Formula
builtin_formulas = twice ∷ plus ∷ []
