-- Numbers, as a line has them.
use Rattle.std.specs.Prelude.{ℕ, List, [], ◌∷◌, ◌++◌, decimal}
use Rattle.std.specs.List.{flat_map}

-- numbers, each behind a space
abbrev pub numbers_bytes : List ℕ → List ℕ
numbers_bytes ns = flat_map (λ n. 0x20 ∷ decimal n) ns

-- a word, a number and the line's end
abbrev pub number_line_bytes : List ℕ → ℕ → List ℕ
number_line_bytes word n = word ++ (0x20 ∷ (decimal n ++ 0x0a ∷ []))

-- a line of the word for each number
abbrev pub number_lines : List ℕ → List ℕ → List ℕ
number_lines word ns = flat_map (number_line_bytes word) ns
