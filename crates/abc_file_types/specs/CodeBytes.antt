-- The canonical bytes of code: the fewest for each operand, and offsets that count them (profile: docs/FORMAT.md, "Canonical bytes").
use Rattle.std.specs.Prelude.{ℕ, ℤ, pos, ◌-ℤ◌, ◌+◌, ◌-◌, ◌*◌, List, [], ◌∷◌, ◌++◌, length, get_or}
use Rattle.std.specs.Int.{w8, w16, cast_unsigned}
use Rattle.std.specs.List.{flat_map}
use Rattle.abc_base.specs.Numbers.{number_bytes}
use Rattle.abc_file_types.specs.Canonical.{s24_bytes}
use Rattle.abc_file_types.specs.declared.code.Instr.{Instr}
use Rattle.abc_file_types.specs.declared.code.Instr.TheVariants as instrs
use Rattle.abc_file_types.specs.Starts.{starts, size}

-- ---- how many

-- how many canonical bytes a number has
abbrev pub number_len : ℕ → ℕ
number_len n = length (number_bytes n)

-- one byte for the opcode, and the fewest for each operand
abbrev pub instr_len : Instr → ℕ
instr_len (instrs.Plain op) = 1
instr_len (instrs.One op n) = 1 + number_len n
instr_len (instrs.Two op n m) = 1 + number_len n + number_len m
instr_len (instrs.Branch op t) = 1 + 3
instr_len (instrs.Switch t ts) = 1 + 3 + number_len (length ts - 1) + 3 * length ts
instr_len (instrs.Byte z) = 1 + 1
instr_len (instrs.Short z) = 1 + number_len (cast_unsigned w16 z)
instr_len (instrs.ScopeObject x) = 1 + 1
instr_len (instrs.Debug kind name reg extra) = 1 + 1 + number_len name + 1 + number_len extra

-- each instruction with the number of its canonical bytes
abbrev pub with_lengths : List Instr → List (Instr × ℕ)
with_lengths [] = []
with_lengths (i ∷ is) = (i, instr_len i) ∷ with_lengths is

-- the sum over all instructions, which leaves the number of bytes before them out
abbrev pub code_len : List Instr → ℕ
code_len is = size (with_lengths is)

-- the starts in the canonical bytes, and their length
unfoldable pub canonical_starts : List Instr → List ℕ
canonical_starts is = starts 0 (with_lengths is)

-- ---- which

-- what is added to a base to come to a start
abbrev pub offset : List ℕ → ℕ → ℕ → ℤ
offset ss base t = pos (get_or ss t 0) -ℤ pos base

abbrev pub instr_bytes : List ℕ → ℕ → ℕ → Instr → List ℕ
instr_bytes ss here next (instrs.Plain op) = op ∷ []
instr_bytes ss here next (instrs.One op n) = op ∷ number_bytes n
instr_bytes ss here next (instrs.Two op n m) = op ∷ (number_bytes n ++ number_bytes m)
instr_bytes ss here next (instrs.Branch op t) = op ∷ s24_bytes (offset ss next t)
instr_bytes ss here next (instrs.Switch t ts) = 0x1b ∷ (s24_bytes (offset ss here t) ++ (number_bytes (length ts - 1) ++ flat_map (λ u. s24_bytes (offset ss here u)) ts))
instr_bytes ss here next (instrs.Byte z) = 0x24 ∷ cast_unsigned w8 z ∷ []
instr_bytes ss here next (instrs.Short z) = 0x25 ∷ number_bytes (cast_unsigned w16 z)
instr_bytes ss here next (instrs.ScopeObject x) = 0x65 ∷ x ∷ []
instr_bytes ss here next (instrs.Debug kind name reg extra) = 0xef ∷ kind ∷ (number_bytes name ++ reg ∷ number_bytes extra)

abbrev pub instrs_bytes : List ℕ → ℕ → List Instr → List ℕ
instrs_bytes ss here [] = []
instrs_bytes ss here (i ∷ is) = instr_bytes ss here (here + instr_len i) i ++ instrs_bytes ss (here + instr_len i) is

-- the number of bytes, and the instructions
unfoldable pub code_bytes : List Instr → List ℕ
code_bytes is = number_bytes (code_len is) ++ instrs_bytes (canonical_starts is) 0 is
