-- What instructions that compute do with the newest frame: so many operands are taken.
use Rattle.std.specs.Prelude.{ℕ, List, ◌∷◌, Bool, not, if◌then◌else◌}
use Rattle.abc_heap_values.specs.declared.values.Value.TheVariants.{Bool as Truth}
use Rattle.abc_heap_values.specs.declared.numbers.Conversion.{Conversion}
use Rattle.abc_link_names.specs.Types.{type_of}
use Rattle.abc_frames.specs.Frame.{Frame, after_drop, with_local}
use Rattle.abc_meaning.specs.Ops.{coerces, compares, computes_one, computes_two, converts}
use Rattle.abc_meaning.specs.Setting.{Setting}
use Rattle.abc_meaning.specs.World.{Run, pure, some, ◌>>=◌}
use Rattle.abc_meaning.specs.At.{Act, goes, jumps, next_frame}
use Rattle.abc_meaning.specs.Late.{kept_as, tested_as}
use Rattle.abc_meaning.specs.Simple.{switch_target}
use Rattle.abc_run_state.specs.Operands.{local_at, operand_at}
use Rattle.abc_run_state.specs.Settling.{pushes_instead}

-- the top operand is converted
abbrev pub converts_top : Setting → Conversion → Frame → Run Act
converts_top p to f = pushes_instead 1 f (converts p to (operand_at 0 f))

-- the opcode computes of the top operand
abbrev pub computes_top : ℕ → Frame → Run Act
computes_top op f = pushes_instead 1 f (computes_one op (operand_at 0 f))

-- the opcode computes of the top two operands, of which the lower is the left
abbrev pub computes_both : Setting → ℕ → Frame → Run Act
computes_both p op f = pushes_instead 2 f (computes_two p op (operand_at 1 f) (operand_at 0 f))

-- the opcode compares the top two operands, of which the lower is the left
abbrev pub compares_both : Setting → ℕ → Frame → Run Bool
compares_both p op f = compares p op (operand_at 1 f) (operand_at 0 f)

-- the opcode compares the top two operands, and the answer is pushed in their place
abbrev pub pushes_test : Setting → ℕ → Frame → Run Act
pushes_test p op f = pushes_instead 2 f (compares_both p op f >>= λ b. pure (Truth b))

-- a local counts by the operation of an opcode
abbrev pub counts_local : ℕ → ℕ → Frame → Run Act
counts_local op n f = computes_one op (local_at n f) >>= λ v. goes (next_frame (with_local n v f))

-- ---- branches

-- the top n operands are taken, and the frame goes on at the target where m answers true, else at the next instruction
abbrev pub branches_on : ℕ → (target : ℕ) → Frame → Run Bool → Run Act
branches_on n target f m = m >>= λ b. goes (if b then jumps target (after_drop n f) else next_frame (after_drop n f))

-- the opposite of what m answers
abbrev pub opposite_of : Run Bool → Run Bool
opposite_of m = m >>= λ b. pure (not b)

-- the default stands before the cases
abbrev pub switches_on : (default : ℕ) → List ℕ → Frame → Run Act
switches_on default cases f = switch_target (default ∷ cases) (operand_at 0 f) >>= λ t. goes (jumps t (after_drop 1 f))

-- ---- a type that is named

-- coerce: the top operand is coerced to the type of the name
abbrev pub coerces_named : Setting → ℕ → Frame → Run Act
coerces_named p name f = pushes_instead 1 f (some (type_of p.linked name) >>= λ t. coerces p t (operand_at 0 f))

-- astype: the top operand stays where it is of the type of the name, and else becomes null
abbrev pub keeps_named : Setting → ℕ → Frame → Run Act
keeps_named p name f = pushes_instead 1 f (some (type_of p.linked name) >>= kept_as p (operand_at 0 f))

-- istype: whether the top operand is of the type of the name
abbrev pub tests_named : Setting → ℕ → Frame → Run Act
tests_named p name f = pushes_instead 1 f (some (type_of p.linked name) >>= tested_as p (operand_at 0 f))
