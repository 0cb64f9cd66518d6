-- A method is entered above a frame, which waits for it.
use Rattle.std.specs.Prelude.{ℕ, List}
use Rattle.abc_heap_values.specs.declared.values.Value.{Value}
use Rattle.abc_frames.specs.Frame.{Frame, arguments, after_drop, waiting}
use Rattle.abc_frames.specs.declared.records.Entry.{Entry}
use Rattle.abc_frames.specs.declared.records.Wait.{Wait}
use Rattle.abc_frames.specs.declared.records.Wait.TheVariants.{Again}
use Rattle.abc_run_state.specs.Turns.{size_of_routine}
use Rattle.abc_run_state.specs.declared.state.Place.{Place as Where}
use Rattle.abc_meaning.specs.Entering.{enters, enters_owned, frame_for, starts_script}
use Rattle.abc_meaning.specs.Objects.{Place, place}
use Rattle.abc_meaning.specs.Setting.{Setting, method_of, routine_of}
use Rattle.abc_meaning.specs.World.{Run, pure, some, ◌>>=◌}
use Rattle.abc_meaning.specs.At.{Above, Act, Goes}

-- in the words of the meaning
abbrev pub place_in_meaning : Where → Place
place_in_meaning at = place at.home at.saved

-- what a method that is entered brings, by its body
abbrev pub entry_for : Setting → (method : ℕ) → Place → Entry
entry_for p n at = record { method = n; home = at.home; saved = at.saved; size = size_of_routine (routine_of p n) }

-- so many operands of the frame are taken
abbrev pub above_taken : (taken : ℕ) → Wait → Frame → Frame → Run Act
above_taken taken wait f g = pure (Goes (Above g (waiting wait (after_drop taken f))))

-- with its first locals made: a receiver and coerced arguments; so many arguments were given, on top of the operands
abbrev pub puts_on : Setting → (method : ℕ) → Place → (this : Value) → List Value → (count taken : ℕ) → Wait → Frame → Run Act
puts_on p n at this vs count taken wait f = some (method_of p n) >>= λ m. frame_for p n m this at (arguments count f) vs >>= above_taken taken wait f

-- a method is entered with the top operands, so many, above a frame that waits; so many operands of that are taken
abbrev pub enters_above : Setting → (method : ℕ) → Value → Place → (count taken : ℕ) → Wait → Frame → Run Act
enters_above p n this at count taken wait f = enters p n this at (arguments count f) >>= above_taken taken wait f

-- a method is entered so, with the home script and the saved scope that its owner keeps
abbrev pub enters_owned_above : Setting → (method : ℕ) → Value → (count taken : ℕ) → Wait → Frame → Run Act
enters_owned_above p n this count taken wait f = enters_owned p n this (arguments count f) >>= above_taken taken wait f

-- a script is started, and the instruction is executed again
abbrev pub starts_above : Setting → (script : ℕ) → Frame → Run Act
starts_above p s f = starts_script p s >>= λ g. pure (Goes (Above g (waiting Again f)))
