-- From offsets in bytes to numbers of instructions, by a search among the starts (Overview, chapter 5; profile: docs/FORMAT.md, "Code").
use Rattle.std.specs.Prelude.{ℕ, suc, ℤ, pos, negsuc, ◌+ℤ◌, ◌+◌, ◌-◌, ◌*◌, Some, None, List, [], ◌∷◌, length, nat_eq, Ok, Err}
use Rattle.std.specs.declared.option.Option.{Option}
use Rattle.std.specs.declared.result.Result.{Result}
use Rattle.std.specs.List.{position}
use Rattle.abc_file_types.specs.declared.reason.Reason.TheVariants as reasons
use Rattle.abc_file_types.specs.Part.{Refusal, refusal, ◌>>=◌}
use Rattle.abc_file_types.specs.declared.code.Instr.{Instr}
use Rattle.abc_file_types.specs.declared.code.Instr.TheVariants as instrs
use Rattle.abc_file_types.specs.declared.instructions.Code.{Code}
use Rattle.abc_file_types.specs.Instructions.{RawInstr, Same, Branch, Switch}
use Rattle.abc_file_types.specs.Starts.{starts}

abbrev pub at_start : List ℕ → ℤ → Option ℕ
at_start ss (pos n) = position (λ s. nat_eq s n) ss
at_start ss (negsuc n) = None

-- the number of the instruction, or of the end, at an offset from a base
abbrev pub target_of : List ℕ → ℕ → ℤ → Option ℕ
target_of ss base z = at_start ss (pos base +ℤ z)

abbrev pub found_target : ℕ → Option ℕ → Result ℕ Refusal
found_target place (Some t) = Ok t
found_target place None = Err (refusal place reasons.Target)

-- the cases of a switch, whose last offset stands just before `next`
abbrev pub cases_of : List ℕ → ℕ → ℕ → List ℤ → Result (List ℕ) Refusal
cases_of ss base next [] = Ok []
cases_of ss base next (z ∷ zs) = found_target (next - 3 * suc (length zs)) (target_of ss base z) >>= λ t. cases_of ss base next zs >>= λ ts. Ok (t ∷ ts)

-- the instruction from `here` to `next`
abbrev pub instr_of : List ℕ → ℕ → ℕ → RawInstr → Result Instr Refusal
instr_of ss here next (Same i) = Ok i
instr_of ss here next (Branch op z) = found_target (here + 1) (target_of ss next z) >>= λ t. Ok (instrs.Branch op t)
instr_of ss here next (Switch z zs) = found_target (here + 1) (target_of ss here z) >>= λ d. cases_of ss here next zs >>= λ ts. Ok (instrs.Switch d ts)

abbrev pub instrs_of : List ℕ → ℕ → List (RawInstr × ℕ) → Result (List Instr) Refusal
instrs_of ss here [] = Ok []
instrs_of ss here (x ∷ xs) = instr_of ss here (here + x.1) x.0 >>= λ i. instrs_of ss (here + x.1) xs >>= λ is. Ok (i ∷ is)

unfoldable pub resolve_targets : List (RawInstr × ℕ) → Result Code Refusal
resolve_targets ps = instrs_of (starts 0 ps) 0 ps >>= λ is. Ok (record { instrs = is; offsets = starts 0 ps })
