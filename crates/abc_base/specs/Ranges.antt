-- The numbers that code computes with (profile: docs/MACHINE.md, "Values, conversions and operations").
use Rattle.std.specs.Prelude.{ℤ, pos, negsuc, ◌≤ℤ◌}

-- from -2147483648 to 4294967295
abbrev pub IsNumber : ℤ → Type 0
IsNumber z = (negsuc 2147483647 ≤ℤ z) × (z ≤ℤ pos 4294967295)
