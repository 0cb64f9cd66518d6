-- Which operands are numbers.
use Rattle.std.specs.Prelude.{Bool, true, false, ◌&&◌}
use Rattle.abc_heap_values.specs.declared.values.Value.{Value}
use Rattle.abc_heap_values.specs.declared.values.Value.TheVariants.{Num}
use Rattle.abc_frames.specs.Frame.{Frame}
use Rattle.abc_run_state.specs.Operands.{operand_at}

abbrev pub is_number_value : Value → Bool
is_number_value (Num n) = true
is_number_value other = false

-- the top operand
abbrev pub is_number_on_top : Frame → Bool
is_number_on_top f = is_number_value (operand_at 0 f)

-- the two top operands
abbrev pub are_numbers_on_top : Frame → Bool
are_numbers_on_top f = is_number_value (operand_at 1 f) && is_number_value (operand_at 0 f)
