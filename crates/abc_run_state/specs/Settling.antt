-- What becomes of the operands that an instruction takes, and of what comes.
use Rattle.std.specs.Prelude.{ℕ, [], ◌∷◌}
use Rattle.abc_heap_values.specs.declared.values.Value.{Value}
use Rattle.abc_frames.specs.Moves.{dropped_on, after_finish}
use Rattle.abc_frames.specs.Frame.{Frame, after_drop}
use Rattle.abc_frames.specs.declared.records.Wait.{Wait}
use Rattle.abc_frames.specs.declared.records.Wait.TheVariants as waits
use Rattle.abc_run_state.specs.declared.state.How.{How}
use Rattle.abc_run_state.specs.declared.state.How.TheVariants.{Push, Drop}
use Rattle.abc_meaning.specs.Calling.{Came}
use Rattle.abc_meaning.specs.World.{Run, pure, ◌>>=◌}
use Rattle.abc_meaning.specs.At.{Act, Goes, Top, dropping, goes, after_pushes, pushing}

-- how many operands an instruction takes
abbrev pub taken_by : How → ℕ
taken_by (Push n) = n
taken_by (Drop n) = n

-- how many values it pushes in their place: one, or none
abbrev pub given_by_how : How → ℕ
given_by_how (Push n) = 1
given_by_how (Drop n) = 0

-- with what came at once
abbrev pub after_settling : How → Value → Frame → Frame
after_settling (Push n) v f = after_finish n v f
after_settling (Drop n) v f = dropped_on n f

-- how the frame waits for what a method returns, and for one that makes an object
abbrev pub wait_of : How → Wait
wait_of (Push n) = waits.Push
wait_of (Drop n) = waits.Drop

abbrev pub wait_with : How → Value → Wait
wait_with (Push n) made = waits.Keep made
wait_with (Drop n) made = waits.Drop

-- what came, over a frame
abbrev pub settling : How → Frame → Came → Top
settling (Push n) f c = pushing (after_drop n f) c
settling (Drop n) f c = dropping (after_drop n f) c

abbrev pub settles_how : How → Frame → Came → Run Act
settles_how how f c = pure (Goes (settling how f c))

-- a value is pushed in the place of what is taken
abbrev pub pushes_instead : ℕ → Frame → Run Value → Run Act
pushes_instead n f m = m >>= λ v. goes (after_pushes (v ∷ []) (after_drop n f))
