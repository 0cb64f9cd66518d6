-- Calls of values and `new` on values: what comes settles over the newest frame, of which so many operands are arguments.
use Rattle.std.specs.Prelude.{ℕ, ◌≤◌, List, [], ◌∷◌, Some, None, Ok, Err}
use Rattle.std.specs.declared.option.Option.{Option}
use Rattle.std.specs.declared.result.Result.{Result}
use Rattle.abc_base.specs.declared.names.HostClass.{HostClass}
use Rattle.abc_heap_values.specs.declared.values.ObjId.{ObjId}
use Rattle.abc_heap_values.specs.declared.values.Span.{Span}
use Rattle.abc_heap_values.specs.declared.values.Value.{Value}
use Rattle.abc_heap_values.specs.declared.values.Value.TheVariants.{Text, Obj}
use Rattle.abc_heap_values.specs.declared.numbers.Conversion.{Conversion}
use Rattle.abc_heap_store.specs.Heap.{Heap}
use Rattle.abc_heap_store.specs.Texts.{IsText}
use Rattle.abc_heap_store.specs.declared.records.ScopeId.{ScopeId}
use Rattle.abc_heap_store.specs.declared.records.What.{What}
use Rattle.abc_heap_store.specs.declared.records.What.TheVariants as whats
use Rattle.abc_objects.specs.Stands.{host_layout}
use Rattle.abc_link_names.specs.Linked.{LinkedFile}
use Rattle.abc_link_names.specs.declared.types.Ty.{Ty}
use Rattle.abc_frames.specs.Ready.{HasFrameRoom}
use Rattle.abc_frames.specs.Frame.{Frame, arguments}
use Rattle.abc_run_state.specs.declared.state.How.{How}
use Rattle.abc_run_state.specs.declared.state.Left.{Left}
use Rattle.abc_run_state.specs.declared.state.Left.TheVariants as lefts
use Rattle.abc_run_state.specs.declared.state.State.{State}
use Rattle.abc_run_state.specs.declared.state.Stop.{Stop}
use Rattle.abc_run_state.specs.Settling.{given_by_how, settles_how, taken_by}
use Rattle.abc_run_state.specs.Standing.{IsSet}
use Rattle.abc_meaning.specs.Calling.{Came, calls, calls_what, calls_frame, got, only_argument}
use Rattle.abc_meaning.specs.Entering.{enters}
use Rattle.abc_meaning.specs.Making.{host_arguments, new, new_elements, new_instance, new_of_class, new_what, prototype_in, set_message}
use Rattle.abc_meaning.specs.Objects.{Place, new_object}
use Rattle.abc_meaning.specs.Ops.{coerces, converts}
use Rattle.abc_meaning.specs.Setting.{Setting}
use Rattle.abc_meaning.specs.World.{Run, pure, see, ◌>>=◌, ◌>>◌}
use Rattle.abc_meaning.specs.At.{Act}

-- what came of it settles
abbrev pub settled_by : How → Frame → Run Came → Run Act
settled_by how f m = m >>= settles_how how f

-- an object that came at once
abbrev pub object_settles : How → Frame → Run ObjId → Run Act
object_settles how f m = settled_by how f (m >>= λ o. got (Obj o))

-- ---- calls

-- the callee is called on the receiver with the top operands, so many, and what comes settles
abbrev pub calls_value : Setting → (callee receiver : Value) → (count : ℕ) → How → Frame → Run Act
calls_value p callee receiver count how f = settled_by how f (calls p callee receiver (arguments count f))

abbrev pub calls_object : Setting → What → (receiver : Value) → (count : ℕ) → How → Frame → Run Act
calls_object p what receiver count how f = settled_by how f (calls_what p what receiver (arguments count f))

-- a function is entered
abbrev pub enters_settled : Setting → (method : ℕ) → Value → Place → (count : ℕ) → How → Frame → Run Act
enters_settled p n this at count how f = settled_by how f (enters p n this at (arguments count f) >>= calls_frame)

-- a class object takes one argument and coerces it
abbrev pub coerces_only : Setting → Ty → (count : ℕ) → How → Frame → Run Act
coerces_only p t count how f = settled_by how f (only_argument (arguments count f) (λ v. coerces p t v >>= got))

abbrev pub converts_only : Setting → Conversion → (count : ℕ) → How → Frame → Run Act
converts_only p to count how f = settled_by how f (only_argument (arguments count f) (λ v. converts p to v >>= got))

-- a line that is still to be written, or a formula that is to be asked: its arguments are among what the frame gives for it
pub record Finishes (l : LinkedFile) (count : ℕ) (how : How) (s : State) : Type 0 where
  pub set : IsSet l s
  pub ready : HasFrameRoom (taken_by how) (given_by_how how) s.frames
  pub enough : count ≤ taken_by how

-- what code left to be done can be done: a line to be written, or a formula to be asked, has its arguments
abbrev pub CanFinish : LinkedFile → Result Left Stop → State → Type 0
CanFinish l (Ok lefts.Goes) s = Unit {0}
CanFinish l (Ok (lefts.Returns v)) s = Unit {0}
CanFinish l (Ok (lefts.Traces count how)) s = Finishes l count how s
CanFinish l (Ok (lefts.Asks n count how)) s = Finishes l count how s
CanFinish l (Err e) s = Unit {0}

-- ---- `new`

-- new on a value, with the top operands as its arguments, so many; what comes settles
abbrev pub makes_value : Setting → Value → (count : ℕ) → How → Frame → Run Act
makes_value p v count how f = settled_by how f (new p v (arguments count f))

abbrev pub makes_of_what : Setting → ObjId → What → (count : ℕ) → How → Frame → Run Act
makes_of_what p o what count how f = settled_by how f (new_what p o what (arguments count f))

abbrev pub makes_of_class : Setting → ObjId → HostClass → (count : ℕ) → How → Frame → Run Act
makes_of_class p o c count how f = settled_by how f (new_of_class p o c (arguments count f))

abbrev pub makes_instance : Setting → ObjId → (class home : ℕ) → ScopeId → (count : ℕ) → How → Frame → Run Act
makes_instance p o k home instances count how f = settled_by how f (new_instance p o k home instances (arguments count f))

-- an array, of its elements or of its length
abbrev pub makes_elements : Setting → (count : ℕ) → How → Frame → Run Act
makes_elements p count how f = object_settles how f (new_elements p (arguments count f))

-- Object, Error and its three: with the message, if there is one
abbrev pub message_texts : Option Span → List Value
message_texts None = []
message_texts (Some t) = Text t ∷ []

-- the message as a list, of one value or none
abbrev pub message_arguments : Result (Option Span) Stop → Result (List Value) Stop
message_arguments (Ok message) = Ok (message_texts message)
message_arguments (Err e) = Err e

-- the message, if there is one, is a text that is there
abbrev pub IsMessage : LinkedFile → Heap → Option Span → Type 0
IsMessage l h None = Unit {0}
IsMessage l h (Some t) = IsText l.file.strings h t

abbrev pub plain_object : Setting → ObjId → HostClass → List Value → Run ObjId
plain_object p o c args = do
  message ← host_arguments p c args
  delegate ← see (prototype_in o)
  made ← new_object p (host_layout p.linked c) delegate whats.Plain
  set_message p made message
  pure made

abbrev pub makes_plain : Setting → ObjId → HostClass → (count : ℕ) → How → Frame → Run Act
makes_plain p o c count how f = object_settles how f (plain_object p o c (arguments count f))
