-- The lines that are written on a file once it was run (profile: docs/PROGRAM.md, "Words").
use Rattle.std.specs.Prelude.{ℕ, ◌+◌, List, [], ◌∷◌, ◌++◌, codes, decimal, length}
use Rattle.abc_file_types.specs.declared.code.Body.{Body}
use Rattle.abc_file_types.specs.declared.tables.Abc.{Abc}
use Rattle.abc_file_types.specs.Files.{file_bytes}

-- how many instructions bodies have
abbrev pub instruction_count : List Body → ℕ
instruction_count [] = 0
instruction_count (b ∷ bs) = length b.code + instruction_count bs

-- a word, a space, a number and a line feed
unfoldable pub count_line : List ℕ → ℕ → List ℕ
count_line word n = word ++ codes " " ++ decimal n ++ 10 ∷ []

-- the length of the canonical bytes, the number of methods and that of all instructions
unfoldable pub size_lines : Abc → List ℕ
size_lines v =
    count_line (codes "bytes") (length (file_bytes v)) ++ count_line (codes "methods") (length v.methods) ++ count_line (codes "instructions") (instruction_count v.bodies)
