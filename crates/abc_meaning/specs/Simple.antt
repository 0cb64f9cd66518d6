-- Acts that need no object: branches, constants, locals, scopes, conversions and computing
-- (Overview, chapter 5; profile: docs/MACHINE.md, "What each instruction does").
use Rattle.std.specs.Prelude.{ℕ, ℤ, pos, negsuc, ◌-◌, List, [], ◌∷◌, Bool, not, length, take, get_or, slice_get, if◌then◌else◌}
use Rattle.abc_base.specs.declared.names.HostClass.TheVariants as hosts
use Rattle.abc_heap_values.specs.declared.values.Value.{Value}
use Rattle.abc_heap_values.specs.declared.values.Value.TheVariants.{Num, Bool as Truth, Obj}
use Rattle.abc_heap_values.specs.declared.numbers.Conversion.{Conversion}
use Rattle.abc_verify_typing.specs.Instructions.{local, targets}
use Rattle.abc_file_types.specs.declared.code.Instr.{Instr}
use Rattle.abc_file_types.specs.declared.code.Instr.TheVariants as instrs
use Rattle.abc_meaning.specs.Entering.{coerces_to}
use Rattle.abc_frames.specs.Frame.{Frame}
use Rattle.abc_meaning.specs.Ops.{compares, computes_one, converts}
use Rattle.abc_meaning.specs.Setting.{Setting, method_of}
use Rattle.abc_meaning.specs.World.{Run, pure, some, sticks, throws, ◌>>=◌}
use Rattle.abc_meaning.specs.At.{Act, ActCase, Doing, Returns, gives_pushed, goes, jumps, next_frame, number_here, one, two, frame_with_local, frame_with_scope}

-- ---- branches

abbrev pub first_target : List ℕ → ℕ
first_target [] = 0
first_target (t ∷ ts) = t

abbrev pub branch_where : (ActCase → Run Bool) → Doing
branch_where f a = f a >>= λ b. goes (if b then jumps (first_target (targets a.here.instr)) a.rest else next_frame a.rest)

abbrev pub where_so : ℕ → Doing
where_so comparison = branch_where (λ a. two a (compares a.setting comparison))

abbrev pub where_not : ℕ → Doing
where_not comparison = branch_where (λ a. two a (compares a.setting comparison) >>= λ b. pure (not b))

-- case i, else the default, which stands first
abbrev pub switch_target : List ℕ → Value → Run ℕ
switch_target (d ∷ ts) (Num (pos n)) = pure (get_or ts n d)
switch_target (d ∷ ts) (Num (negsuc n)) = pure d
switch_target ts v = sticks

abbrev pub switches : Doing
switches a = one a λ v. switch_target (targets a.here.instr) v >>= λ t. goes (jumps t a.rest)

-- ---- returns: what returns is coerced in the returning frame

-- the frame returns v, coerced to the type that its method returns
abbrev pub returns : Setting → Frame → Value → Run Act
returns p f v = some (method_of p f.method) >>= λ m. coerces_to p m.ret v >>= λ r. pure (Returns r)

-- ---- scopes

abbrev pub pushes_scope : Bool → Frame → Value → Run Act
pushes_scope is_with f (Obj o) = goes (next_frame (frame_with_scope (record { object = o; with_flag = is_with }) f))
pushes_scope is_with f v = throws hosts.TypeError

abbrev pub pops_scope : Doing
pops_scope a = goes (next_frame (record a.rest { scopes = take (length a.rest.scopes - 1) a.rest.scopes }))

abbrev pub scope_object : ActCase → Run Value
scope_object a = some (slice_get a.frame.scopes (number_here a)) >>= λ e. pure (Obj e.object)

-- ---- constants and locals

abbrev pub whole : Instr → ℤ
whole (instrs.Byte n) = n
whole (instrs.Short n) = n
whole other = pos 0

abbrev pub local_value : ActCase → Run Value
local_value a = some (slice_get a.frame.locals (local a.here.instr))

abbrev pub sets_local : ActCase → Value → Run Act
sets_local a v = goes (next_frame (frame_with_local (local a.here.instr) v a.rest))

-- a local counts by the operation of an opcode
abbrev pub counts : ℕ → Doing
counts operation a = local_value a >>= λ v. computes_one operation v >>= sets_local a

-- ---- conversions

abbrev pub converting : Conversion → Doing
converting to = gives_pushed (λ a. one a (converts a.setting to))

abbrev pub flag : Run Bool → Run Value
flag m = m >>= λ b. pure (Truth b)
