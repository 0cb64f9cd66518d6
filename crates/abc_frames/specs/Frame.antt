-- The frames of a run, of which all contracts speak (Overview, chapters 2 and 3; profile: docs/MACHINE.md, "Frames").
use Rattle.std.specs.Prelude.{ℕ, ◌+◌, ◌≤◌, List, [], ◌∷◌, ◌++◌, length, take, drop, set, reverse, replicate, Option, None, Result, Ok, Err, nat_le, if◌then◌else◌}
use Rattle.abc_heap_values.specs.declared.values.Value.{Value}
use Rattle.abc_heap_values.specs.declared.values.Value.TheVariants.{Undefined}
use Rattle.abc_heap_store.specs.declared.records.Full.{Full}
use Rattle.abc_heap_store.specs.declared.records.Limit.TheVariants.{Frames as FrameLimit, Stack as StackLimit}
use Rattle.abc_heap_store.specs.declared.records.ScopeEntry.{ScopeEntry}
use Rattle.abc_heap_store.specs.declared.records.ScopeId.{ScopeId}
use Rattle.abc_frames.specs.declared.records.Entry.{Entry}
use Rattle.abc_frames.specs.declared.records.Size.{Size}
use Rattle.abc_frames.specs.declared.records.Wait.{Wait}
use Rattle.abc_frames.specs.declared.records.Wait.TheVariants.{Not}

-- the operands have the top first, the local scopes the bottom
pub record Frame : Type 0 where
  pub method : ℕ
  pub home : ℕ
  pub saved : Option ScopeId
  pub stack : List Value
  pub scopes : List ScopeEntry
  pub locals : List Value
  pub place : ℕ
  pub wait : Wait

-- the frames that live, the newest first; what each may keep; and how many frames and values there may be
pub record Frames : Type 0 where
  pub living : List Frame
  pub sizes : List Size
  pub frame_limit : ℕ
  pub value_limit : ℕ

-- no frame lives; so many frames and so many values there may be
abbrev pub no_frames : (frames values : ℕ) → Frames
no_frames frames values = record { living = []; sizes = []; frame_limit = frames; value_limit = values }

-- ---- the newest frame, or an empty one where none lives, and those under it

abbrev pub no_frame : Frame
no_frame = record { method = 0; home = 0; saved = None; stack = []; scopes = []; locals = []; place = 0; wait = Not }

abbrev pub no_size : Size
no_size = record { locals = 0; stack = 0; scopes = 0 }

abbrev pub newest_of : List Frame → Frame
newest_of [] = no_frame
newest_of (f ∷ fs) = f

abbrev pub first_size : List Size → Size
first_size [] = no_size
first_size (s ∷ ss) = s

abbrev pub under : List Frame → List Frame
under [] = []
under (f ∷ fs) = fs

-- the newest frame
abbrev pub newest : Frames → Frame
newest q = newest_of q.living

-- what the newest may keep
abbrev pub newest_size : Frames → Size
newest_size q = first_size q.sizes

-- ---- what is done to a frame

-- the frame with v as one more operand, on top
abbrev pub after_push : Value → Frame → Frame
after_push v f = record f { stack = v ∷ f.stack }

-- the frame with v in place of operand n, counted from the top, which is 0
abbrev pub with_operand : ℕ → Value → Frame → Frame
with_operand n v f = record f { stack = set f.stack n v }

-- the frame without its top n operands
abbrev pub after_drop : ℕ → Frame → Frame
after_drop n f = record f { stack = drop n f.stack }

-- k operands leave from under the top n
abbrev pub dropped_under : (n k : ℕ) → Frame → Frame
dropped_under n k f = record f { stack = take n f.stack ++ drop (n + k) f.stack }

-- the frame with v in local n
abbrev pub with_local : ℕ → Value → Frame → Frame
with_local n v f = record f { locals = set f.locals n v }

-- the frame with one more local scope, on top
abbrev pub with_scope : ScopeEntry → Frame → Frame
with_scope e f = record f { scopes = f.scopes ++ e ∷ [] }

-- the frame goes on at the instruction of index i
abbrev pub at_place : ℕ → Frame → Frame
at_place i f = record f { place = i }

-- the frame waits for what a call returns; `wait` tells what it does with that
abbrev pub waiting : Wait → Frame → Frame
waiting wait f = record f { wait = wait }

-- a handler goes on with the value alone on the stack and without scopes
abbrev pub after_catch : Value → (target : ℕ) → Frame → Frame
after_catch v target f = record f { stack = v ∷ []; scopes = []; place = target; wait = Not }

-- the newest changes, and no other
abbrev pub with_newest : (Frame → Frame) → Frames → Frames
with_newest g q = record q { living = g (newest q) ∷ under q.living }

-- ---- room: one frame, and the values that it may keep

abbrev pub total_size : Size → ℕ
total_size s = s.locals + s.stack + s.scopes

abbrev pub total_of_all : List Size → ℕ
total_of_all [] = 0
total_of_all (s ∷ ss) = total_size s + total_of_all ss

-- one more frame of this size is within both limits
abbrev pub HasRoomForFrame : Frames → Size → Type 0
HasRoomForFrame q s = (length q.living + 1 ≤ q.frame_limit) × (total_of_all q.sizes + total_size s ≤ q.value_limit)

-- frames are tried first
abbrev pub room_for : Frames → Size → Result Unit Full
room_for q s =
    if nat_le (length q.living + 1) q.frame_limit
    then (if nat_le (total_of_all q.sizes + total_size s) q.value_limit then Ok tt else Err (record { 0 = StackLimit }))
    else Err (record { 0 = FrameLimit })

-- ---- a method is entered: its first locals are given, the others are undefined

abbrev pub locals_of : (count : ℕ) → List Value → List Value
locals_of count vs = take count (vs ++ replicate count Undefined)

abbrev pub frame_of_entry : Entry → List Value → Frame
frame_of_entry e vs = record { method = e.method; home = e.home; saved = e.saved; stack = []; scopes = []; locals = locals_of e.size.locals vs; place = 0; wait = Not }

-- over no frame
abbrev pub frames_at_start : Entry → List Value → Frames → Frames
frames_at_start e vs q = record q { living = frame_of_entry e vs ∷ []; sizes = e.size ∷ [] }

-- over the newest, whose top n operands leave, and which waits
abbrev pub after_entry : Entry → List Value → (n : ℕ) → Wait → Frames → Frames
after_entry e vs n wait q = record q { living = frame_of_entry e vs ∷ waiting wait (after_drop n (newest q)) ∷ under q.living; sizes = e.size ∷ q.sizes }

-- the top n operands, the one that was pushed first first
abbrev pub arguments : ℕ → Frame → List Value
arguments n f = reverse (take n f.stack)

-- ---- the newest is left

abbrev pub rest_of : List Size → List Size
rest_of [] = []
rest_of (s ∷ ss) = ss

-- the frames without the newest
abbrev pub after_leave : Frames → Frames
after_leave q = record q { living = under q.living; sizes = rest_of q.sizes }
