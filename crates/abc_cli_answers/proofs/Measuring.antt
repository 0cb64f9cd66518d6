-- The lines on a file, piece by piece, and how many instructions the generated file has.
use Rattle.std.proofs.Common.{◌≡◌, ℕ, zero, suc, ◌+◌, ◌*◌, ◌≤◌, ◌<◌, ◌^◌, List, [], ◌∷◌, ◌++◌, codes, decimal, length, map, ap, ◌∙◌, append_assoc, arith}
use Rattle.std.specs.Prelude.{All}
use Rattle.std.specs.List.{flat_map, range_with_len}
use Rattle.std.proofs.lemmas.List.{length-append}
use Rattle.abc_file_types.specs.declared.tables.Abc.{Abc}
use Rattle.abc_file_types.specs.Bodies.{IsReadyBody}
use Rattle.abc_file_types.specs.Files.{Fits, file_bytes}
use Rattle.abc_file_types.proofs.Whole.{file_ready}
use Rattle.abc_cli_answers.specs.Codes.{call_code, callpropvoid, findpropstrict, first_code, getlocal_1, returnvoid}
use Rattle.abc_cli_answers.specs.Generated.{function_body, generated_file}
use Rattle.abc_cli_answers.specs.Measured.{count_line, instruction_count, size_lines}
use Rattle.abc_cli_answers.proofs.Ready.{calls_length}

-- a line, piece by piece
pub line_is : (a b c d e word digits : List ℕ) (n : ℕ) → b ≡ a ++ word → c ≡ b ++ codes " " → d ≡ c ++ digits → digits ≡ decimal n → e ≡ d ++ 10 ∷ [] → e ≡ a ++ count_line word n
unfolding count_line
line_is a b c d e word digits n first space more number last =
    last
    ∙ ap (λ (x : List ℕ). x ++ 10 ∷ []) (more ∙ ap (λ (x : List ℕ). x ++ digits) (space ∙ ap (λ (x : List ℕ). x ++ codes " ") first))
    ∙ ap (λ (x : List ℕ). (((a ++ word) ++ codes " ") ++ x) ++ 10 ∷ []) number
    ∙ ap (λ (x : List ℕ). (x ++ decimal n) ++ 10 ∷ []) (append_assoc a word (codes " "))
    ∙ ap (λ (x : List ℕ). x ++ 10 ∷ []) (append_assoc a (word ++ codes " ") (decimal n))
    ∙ append_assoc a ((word ++ codes " ") ++ decimal n) (10 ∷ [])

-- the three lines, one after the other
pub measured_is : (v : Abc) (a b c d : List ℕ) (n m k : ℕ) → n ≡ length (file_bytes v) → m ≡ length v.methods → k ≡ instruction_count v.bodies → a ≡ []
    → b ≡ a ++ count_line (codes "bytes") n → c ≡ b ++ count_line (codes "methods") m → d ≡ c ++ count_line (codes "instructions") k → d ≡ size_lines v
unfolding size_lines
measured_is v a b c d n m k long methods count none first second third = third
    ∙ ap (λ (x : List ℕ). x ++ count_line (codes "instructions") k) (second ∙ ap (λ (x : List ℕ). x ++ count_line (codes "methods") m) (first ∙ ap (λ (x : List ℕ). x ++ count_line (codes "bytes") n) none))
    ∙ ap (λ (x : ℕ). (count_line (codes "bytes") x ++ count_line (codes "methods") m) ++ count_line (codes "instructions") k) long
    ∙ ap (λ (x : ℕ). (count_line (codes "bytes") (length (file_bytes v)) ++ count_line (codes "methods") x) ++ count_line (codes "instructions") k) methods
    ∙ ap (λ (x : ℕ). (count_line (codes "bytes") (length (file_bytes v)) ++ count_line (codes "methods") (length v.methods)) ++ count_line (codes "instructions") x) count

-- ---- the generated file

functions_count : (seed a k : ℕ) → instruction_count (map (function_body seed) (range_with_len a k)) ≡ 16 * k
functions_count seed a zero = omega arith
functions_count seed a (suc k) = omega (arith, functions_count seed (a + 1) k)

first_count : (m : ℕ) → length (first_code m) ≡ 5 * m + 8
first_count m =
    omega (arith, calls_length 1 m, length-append (flat_map call_code (range_with_len 1 m)) (findpropstrict 1 ∷ getlocal_1 ∷ callpropvoid 1 1 ∷ returnvoid ∷ []))

pub generated_count : (seed m : ℕ) → instruction_count (generated_file seed m).bodies ≡ 21 * m + 8
generated_count seed m = omega (arith, functions_count seed 1 m, first_count m)

pub few_instructions : (seed m : ℕ) → m ≤ 10000 → instruction_count (generated_file seed m).bodies < 2 ^ 32
few_instructions seed m few = omega (arith, few, generated_count seed m)

pub bodies_ready : (v : Abc) → Fits v → All IsReadyBody v.bodies
bodies_ready v f = file_ready v f.0 f.1
