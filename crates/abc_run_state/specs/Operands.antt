-- The operands and locals of a frame, by their numbers.
use Rattle.std.specs.Prelude.{ℕ, get_or}
use Rattle.abc_heap_values.specs.declared.values.Value.{Value}
use Rattle.abc_heap_values.specs.declared.values.Value.TheVariants.{Undefined}
use Rattle.abc_frames.specs.Frame.{Frame}

-- from the top
abbrev pub operand_at : ℕ → Frame → Value
operand_at n f = get_or f.stack n Undefined

-- local n of a frame
abbrev pub local_at : ℕ → Frame → Value
local_at n f = get_or f.locals n Undefined
