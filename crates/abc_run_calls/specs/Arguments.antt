-- The arguments of a method, one by one, and what the code that coerces them may rely on.
use Rattle.std.specs.Prelude.{◌≡◌, ℕ, ◌+◌, ◌<◌, ◌≤◌, ◌^◌, List, [], ◌∷◌, length, slice_get, Some, None, Ok, Err}
use Rattle.std.specs.declared.option.Option.{Option}
use Rattle.std.specs.declared.result.Result.{Result}
use Rattle.abc_base.specs.declared.formula.Formula.{Formula}
use Rattle.abc_heap_values.specs.declared.values.Value.{Value}
use Rattle.abc_heap_values.specs.declared.values.Value.TheVariants.{Undefined}
use Rattle.abc_heap_store.specs.Heap.{Heap}
use Rattle.abc_objects.specs.Growing.{Grows}
use Rattle.abc_objects.specs.Stands.{StandsOver}
use Rattle.abc_objects.specs.Values.{Exists}
use Rattle.abc_link_names.specs.Linked.{LinkedFile}
use Rattle.abc_file_types.specs.declared.methods.Method.{Method}
use Rattle.abc_file_types.specs.declared.methods.OptionValue.{OptionValue}
use Rattle.abc_run_state.specs.declared.state.State.{State}
use Rattle.abc_run_state.specs.declared.state.Stop.{Stop}
use Rattle.abc_meaning.specs.Entering.{arguments_for, coerces_to, gives_option}
use Rattle.abc_meaning.specs.Setting.{Setting, method_of, value_of_option}
use Rattle.abc_meaning.specs.World.{Run, pure, some, sticks, ◌>>=◌}

-- what is given first, or the value of its option
abbrev pub first_or_option : Setting → List (Option OptionValue) → List Value → Run Value
first_or_option p os (v ∷ vs) = pure v
first_or_option p [] [] = sticks
first_or_option p (o ∷ os) [] = gives_option p o

-- it is coerced to the type of the parameter
abbrev pub coerces_first : Setting → ℕ → List (Option OptionValue) → List Value → Run Value
coerces_first p ty os vs = first_or_option p os vs >>= coerces_to p ty

-- the values that code made beside what it answers
abbrev pub with_values : {X : Type 0} → Result Unit Stop → X → Result X Stop
with_values (Ok u) x = Ok x
with_values (Err e) x = Err e

-- the receiver stands before the arguments
abbrev pub first_receiver : List Value → Value
first_receiver [] = Undefined
first_receiver (v ∷ vs) = v

-- the array that a method may take
abbrev pub list_of : Option Value → List Value
list_of None = []
list_of (Some v) = v ∷ []

abbrev pub list_result : Result (Option Value) Stop → Result (List Value) Stop
list_result (Ok array) = Ok (list_of array)
list_result (Err e) = Err e

-- the arguments of a method, by its number
abbrev pub makes_arguments : Setting → (method : ℕ) → List Value → Run (List Value)
makes_arguments p n given = some (method_of p n) >>= λ m. arguments_for p m given

-- ---- what code relies on

-- an option of the file: its number is low, and its value is there
pub record IsOptionOf (l : LinkedFile) (o : OptionValue) : Type 0 where
  pub low : o.value < 2 ^ 30
  pub there : (formulas : List Formula) (h : Heap) (v : Value) → StandsOver l h → value_of_option (record { linked = l; formulas = formulas }) o ≡ Some v → Exists l h v

pub record HasOptions (l : LinkedFile) (m : Method) : Type 0 where
  pub each : (k : ℕ) (o : OptionValue) → slice_get m.options k ≡ Some o → IsOptionOf l o

-- there is room for the first locals of each method: the receiver, the parameters and an array
pub record HasArgumentRoom (l : LinkedFile) (limit : ℕ) : Type 0 where
  pub room : (n : ℕ) (m : Method) → slice_get l.file.methods n ≡ Some m → length m.params + 2 ≤ limit
  pub options : (n : ℕ) (m : Method) → slice_get l.file.methods n ≡ Some m → HasOptions l m

-- first locals are made: the arena grew, and the frames and the started scripts are as they were
pub record Makes (l : LinkedFile) (old new : State) : Type 0 where
  pub over : StandsOver l new.arena
  pub grows : Grows old.arena new.arena
  pub frames : new.frames ≡ old.frames
  pub started : new.started ≡ old.started
  pub limit : new.given.limit ≡ old.given.limit
