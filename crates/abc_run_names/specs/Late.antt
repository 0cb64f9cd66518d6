-- Types of class objects, and a name in an object.
use Rattle.abc_heap_values.specs.declared.values.Value.{Value}
use Rattle.abc_heap_values.specs.declared.values.Value.TheVariants.{Bool as Truth}
use Rattle.abc_frames.specs.Frame.{Frame}
use Rattle.abc_objects.specs.Searches.{found_on}
use Rattle.abc_objects.specs.declared.found.Want.TheVariants.{Read}
use Rattle.abc_objects.specs.declared.name.Spaces.TheVariants.{Public}
use Rattle.abc_meaning.specs.At.{Act}
use Rattle.abc_meaning.specs.Late.{is_found, is_instance, kept_as, late_type, tested_as}
use Rattle.abc_run_state.specs.Operands.{operand_at}
use Rattle.abc_meaning.specs.Members.{with_holder}
use Rattle.abc_meaning.specs.Ops.{spells}
use Rattle.abc_meaning.specs.Setting.{Setting}
use Rattle.abc_meaning.specs.World.{Run, pure, see, ◌>>=◌}
use Rattle.abc_run_state.specs.Settling.{pushes_instead}

-- astypelate, istypelate, instanceof
abbrev pub keeps_late : Setting → Frame → Run Act
keeps_late p f = pushes_instead 2 f (late_type p (operand_at 0 f) >>= kept_as p (operand_at 1 f))

-- istypelate: whether the value is of the type of the class object above it
abbrev pub tests_late : Setting → Frame → Run Act
tests_late p f = pushes_instead 2 f (late_type p (operand_at 0 f) >>= tested_as p (operand_at 1 f))

-- instanceof: whether the prototype of the class object on top is among the delegates of the value under it
abbrev pub tests_instance : Setting → Frame → Run Act
tests_instance p f = pushes_instead 2 f (late_type p (operand_at 0 f) >>= λ t. see (is_instance (operand_at 1 f) (operand_at 0 f)) >>= λ b. pure (Truth b))

-- in
abbrev pub name_is_in : Setting → (name object : Value) → Run Value
name_is_in p n o = spells p n >>= λ t. with_holder o (see (λ w. Truth (is_found (found_on p.linked w.heap o (record { spaces = Public; text = t }) Read))))

-- in: whether the public name under the top operand finds anything on that
abbrev pub tests_name : Setting → Frame → Run Act
tests_name p f = pushes_instead 2 f (name_is_in p (operand_at 1 f) (operand_at 0 f))
