-- The numbers that the generator draws (profile: docs/PROGRAM.md, "Words"; said in full here alone).
use Rattle.std.specs.Prelude.{ℕ, suc, zero, ◌+◌, ◌*◌, ◌/◌, ◌%◌, ◌^◌}

-- the generator's number after a draw
abbrev pub next_of : ℕ → ℕ
next_of x = (x * 1664525 + 1013904223) % 2 ^ 32

-- what a draw gives that leaves this number
abbrev pub drawn_number : ℕ → ℕ
drawn_number x = x / 65536

-- the generator's number after so many draws
abbrev pub draws_after : ℕ → ℕ → ℕ
draws_after seed zero = seed
draws_after seed (suc n) = next_of (draws_after seed n)
