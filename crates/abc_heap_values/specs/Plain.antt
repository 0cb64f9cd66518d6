-- Sums, products and quotients within the range of numbers (Overview, chapter 5; profile: docs/MACHINE.md, "Values, conversions and operations").
use Rattle.std.specs.Prelude.{ℤ, pos, negsuc, ◌+ℤ◌, ◌-ℤ◌, ◌*ℤ◌, neg_ℤ, int_le, int_div, int_rem, ◌&&◌, Ok, Err, if◌then◌else◌}
use Rattle.std.specs.Ordering.{int_eq}
use Rattle.std.specs.declared.result.Result.{Result}
use Rattle.abc_base.specs.declared.names.Fault.{Fault}
use Rattle.abc_base.specs.declared.names.Fault.TheVariants.{Range, NotANumber}

-- a result from -2147483648 to 4294967295, and no other
abbrev pub in_range : ℤ → Result ℤ Fault
in_range z = if int_le (negsuc 2147483647) z && int_le z (pos 4294967295) then Ok z else Err Range

-- the sum, or a fault where it is out of range
abbrev pub sum : ℤ → ℤ → Result ℤ Fault
sum x y = in_range (x +ℤ y)

-- the left less the right, or a fault where that is out of range
abbrev pub difference : ℤ → ℤ → Result ℤ Fault
difference x y = in_range (x -ℤ y)

-- the product, or a fault where it is out of range
abbrev pub product : ℤ → ℤ → Result ℤ Fault
product x y = in_range (x *ℤ y)

-- a quotient without a remainder
abbrev pub whole_quotient : ℤ → ℤ → Result ℤ Fault
whole_quotient x y = if int_eq (int_rem x y) (pos 0) then in_range (int_div x y) else Err Range

-- by a divisor other than 0
abbrev pub quotient : ℤ → ℤ → Result ℤ Fault
quotient x y = if int_eq y (pos 0) then Err NotANumber else whole_quotient x y

-- the remainder has the dividend's sign
abbrev pub remainder : ℤ → ℤ → Result ℤ Fault
remainder x y = if int_eq y (pos 0) then Err NotANumber else Ok (int_rem x y)

-- the number with the other sign, or a fault where that is out of range
abbrev pub negation : ℤ → Result ℤ Fault
negation x = in_range (neg_ℤ x)
