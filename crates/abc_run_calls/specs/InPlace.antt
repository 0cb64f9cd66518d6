-- A method whose first locals are operands as they stand: its receiver, and its arguments above it, each of which is what it is
-- coerced to.
use Rattle.std.specs.Prelude.{◌≡◌, ℕ, ◌+◌, false, length}
use Rattle.abc_heap_values.specs.declared.values.Value.{Value}
use Rattle.abc_link_names.specs.Linked.{LinkedFile}
use Rattle.abc_frames.specs.Frame.{Frame, arguments}
use Rattle.abc_file_types.specs.declared.methods.Method.{Method}
use Rattle.abc_verify_typing.specs.Routines.{takes_array}
use Rattle.abc_meaning.specs.Entering.{coerced_arguments}
use Rattle.abc_run_state.specs.Operands.{operand_at}
use Rattle.abc_run_state.specs.Outer.{Outer, setting_in}
use Rattle.abc_meaning.specs.Setting.{options_of}
use Rattle.abc_meaning.specs.World.{Went, World}

-- all arguments are what they are coerced to
abbrev pub AreOfTypes : LinkedFile → Method → (count : ℕ) → Frame → Type 0
AreOfTypes l m count f = (out : Outer) (w : World) → coerced_arguments (setting_in l out) m.params (options_of m) (arguments count f) w ≡ Went w (arguments count f)

-- all operands that leave are the receiver and the arguments above it, and no array comes behind them
pub record StandsInPlace (l : LinkedFile) (m : Method) (this : Value) (count taken : ℕ) (f : Frame) : Type 0 where
  pub all : taken ≡ count + 1
  pub receiver : operand_at count f ≡ this
  pub many : length m.params ≡ count
  pub alone : takes_array m.flags ≡ false
  pub given : AreOfTypes l m count f
