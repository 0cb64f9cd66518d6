-- An instruction that is run, what it comes to, and how its frame goes on (profile: docs/MACHINE.md, "A step").
use Rattle.std.specs.Prelude.{ℕ, ◌+◌, List, [], ◌∷◌, ◌++◌, length, reverse, set}
use Rattle.abc_heap_values.specs.declared.values.Value.{Value}
use Rattle.abc_heap_store.specs.declared.records.ScopeEntry.{ScopeEntry}
use Rattle.abc_verify_typing.specs.Instructions.{opcode, operand}
use Rattle.abc_verify_typing.specs.Effects.{Here}
use Rattle.abc_meaning.specs.Calling.{Came, Calls, Got, Makes}
use Rattle.abc_frames.specs.Frame.{Frame}
use Rattle.abc_meaning.specs.Setting.{Setting}
use Rattle.abc_meaning.specs.World.{Run, pure, sticks, ◌>>=◌}
use Rattle.abc_frames.specs.declared.records.Wait.{Wait}
use Rattle.abc_frames.specs.declared.records.Wait.TheVariants as waits

-- its frame as it stands and without what is taken; the arguments, the first first; the other values and the runtime parts of
-- the name, the top first
pub record ActCase : Type 0 where
  pub setting : Setting
  pub here : Here
  pub frame : Frame
  pub rest : Frame
  pub args : List Value
  pub values : List Value
  pub parts : List Value

-- the frame goes on, or a new one is entered above it
pub data Top : Type 0 where
  Stays : Frame → Top
  Above : (entered : Frame) → (below : Frame) → Top

pub data Act : Type 0 where
  Goes : Top → Act
  Returns : Value → Act

abbrev pub Doing : Type 0
Doing = ActCase → Run Act

abbrev pub opcode_at : ActCase → ℕ
opcode_at a = opcode a.here.instr

abbrev pub number_here : ActCase → ℕ
number_here a = operand a.here.instr

-- ---- how a frame goes on

abbrev pub next_frame : Frame → Frame
next_frame f = record f { place = f.place + 1 }

abbrev pub jumps : ℕ → Frame → Frame
jumps target f = record f { place = target }

abbrev pub after_pushes : List Value → Frame → Frame
after_pushes vs f = record f { stack = vs ++ f.stack; place = f.place + 1 }

abbrev pub frame_with_local : ℕ → Value → Frame → Frame
frame_with_local n v f = record f { locals = set f.locals n v }

abbrev pub frame_with_scope : ScopeEntry → Frame → Frame
frame_with_scope e f = record f { scopes = f.scopes ++ e ∷ [] }

abbrev pub waiting_frame : Wait → Frame → Frame
waiting_frame wait f = record f { wait = wait }

abbrev pub goes : Frame → Run Act
goes f = pure (Goes (Stays f))

-- what came is pushed, now or at the return; an object that is made is, and not what its maker returns
abbrev pub pushing : Frame → Came → Top
pushing f (Got v) = Stays (after_pushes (v ∷ []) f)
pushing f (Calls g) = Above g (waiting_frame waits.Push f)
pushing f (Makes g v) = Above g (waiting_frame (waits.Keep v) f)

-- or it is dropped
abbrev pub dropping : Frame → Came → Top
dropping f (Got v) = Stays (next_frame f)
dropping f (Calls g) = Above g (waiting_frame waits.Drop f)
dropping f (Makes g v) = Above g (waiting_frame waits.Drop f)

-- new is done on what came, now or at the return; the arguments then stay on the stack
abbrev pub with_args : ActCase → Frame
with_args a = record a.rest { stack = reverse a.args ++ a.rest.stack }

abbrev pub makes_of_came : ActCase → (Value → Run Came) → Came → Run Act
makes_of_came a new (Got v) = new v >>= λ c. pure (Goes (pushing a.rest c))
makes_of_came a new (Calls g) = pure (Goes (Above g (waiting_frame (waits.New (length a.args)) (with_args a))))
makes_of_came a new (Makes g v) = sticks

-- ---- what is taken

abbrev pub take_one : {X : Type 0} → List Value → (Value → Run X) → Run X
take_one [] f = sticks
take_one (v ∷ vs) f = f v

abbrev pub take_two : {X : Type 0} → List Value → (Value → Value → Run X) → Run X
take_two (y ∷ x ∷ vs) f = f x y
take_two vs f = sticks

abbrev pub one : {X : Type 0} → ActCase → (Value → Run X) → Run X
one a f = take_one a.values f

-- the one that was pushed first stands first
abbrev pub two : {X : Type 0} → ActCase → (Value → Value → Run X) → Run X
two a f = take_two a.values f

-- ---- what the opcodes of one kind do

abbrev pub does_nothing : Doing
does_nothing a = goes (next_frame a.rest)

abbrev pub gives_pushed : (ActCase → Run Value) → Doing
gives_pushed f a = f a >>= λ v. goes (after_pushes (v ∷ []) a.rest)

abbrev pub gives_came : (ActCase → Run Came) → Doing
gives_came f a = f a >>= λ c. pure (Goes (pushing a.rest c))

abbrev pub drops_came : (ActCase → Run Came) → Doing
drops_came f a = f a >>= λ c. pure (Goes (dropping a.rest c))
