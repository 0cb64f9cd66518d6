-- What becomes of a frame.
use Rattle.std.specs.Prelude.{ℕ, ◌+◌, ◌-◌, List, [], ◌∷◌, ◌++◌, Bool, true, false, length, drop, take, Option, None, Some}
use Rattle.abc_heap_values.specs.declared.values.ObjId.{ObjId}
use Rattle.abc_heap_values.specs.declared.values.Value.{Value}
use Rattle.abc_heap_values.specs.declared.values.Value.TheVariants.{Undefined, Null, Num, Bool as Truth, Text, Space, Obj}
use Rattle.abc_frames.specs.Frame.{Frame, Frames, newest, with_newest, at_place, after_drop, with_local, with_scope, waiting}
use Rattle.abc_frames.specs.declared.records.Wait.{Wait}
use Rattle.abc_frames.specs.declared.records.Wait.TheVariants.{Not, Push, Drop, Keep, Again, New}

-- ---- how a frame goes on

-- the frame goes on at the next instruction
abbrev pub next : Frame → Frame
next f = record f { place = f.place + 1 }

-- with values on its stack, the top first
abbrev pub next_with : List Value → Frame → Frame
next_with vs f = record f { stack = vs ++ f.stack; place = f.place + 1 }

-- ---- what is taken: the top, and what is under it

abbrev pub first_value : List Value → Value
first_value [] = Undefined
first_value (v ∷ vs) = v

-- the top operand
abbrev pub top : Frame → Value
top f = first_value f.stack

abbrev pub second_value : Frame → Value
second_value f = first_value (drop 1 f.stack)

-- ---- operands and locals

-- pop: the top operand is taken, and the frame goes on
abbrev pub after_pop : Frame → Frame
after_pop f = next (after_drop 1 f)

-- dup: the top operand is there twice
abbrev pub after_dup : Frame → Frame
after_dup f = next_with (top f ∷ top f ∷ []) (after_drop 1 f)

-- swap: the top two operands change places
abbrev pub after_swap : Frame → Frame
after_swap f = next_with (second_value f ∷ top f ∷ []) (after_drop 2 f)

-- setlocal: the top operand goes into local n
abbrev pub after_store : ℕ → Frame → Frame
after_store n f = next (with_local n (top f) (after_drop 1 f))

-- kill: local n is undefined
abbrev pub after_kill : ℕ → Frame → Frame
after_kill n f = next (with_local n Undefined f)

-- the top n operands are taken, and the frame goes on
abbrev pub dropped_on : ℕ → Frame → Frame
dropped_on n f = next (after_drop n f)

-- a value in place of the top ones, so many
abbrev pub after_finish : ℕ → Value → Frame → Frame
after_finish n v f = next_with (v ∷ []) (after_drop n f)

-- to the target, or on
abbrev pub after_branch : Bool → (target : ℕ) → Frame → Frame
after_branch true target f = at_place target f
after_branch false target f = next f

-- ---- scopes

-- the object that a value is, if it is one
abbrev pub object_in : Value → Option ObjId
object_in (Obj o) = Some o
object_in Undefined = None
object_in Null = None
object_in (Num n) = None
object_in (Truth b) = None
object_in (Text t) = None
object_in (Space n) = None

-- an object that is taken goes onto the scopes, and no other value
abbrev pub after_push_scope : (with_flag : Bool) → ObjId → Frame → Frame
after_push_scope with_flag o f = next (with_scope (record { object = o; with_flag = with_flag }) (after_drop 1 f))

abbrev pub scoped_if : (with_flag : Bool) → Option ObjId → Frames → Frames
scoped_if with_flag None q = q
scoped_if with_flag (Some o) q = with_newest (after_push_scope with_flag o) q

-- the top operand is taken and, where it is an object, put onto the newest frame's scopes; else nothing changes
abbrev pub scopes_pushed : (with_flag : Bool) → Frames → Frames
scopes_pushed with_flag q = scoped_if with_flag (object_in (top (newest q))) q

-- popscope: the top local scope goes
abbrev pub after_pop_scope : Frame → Frame
after_pop_scope f = next (record f { scopes = take (length f.scopes - 1) f.scopes })

-- ---- what a frame that waited does with what returns; where it makes an object of that, it still waits

abbrev pub resumed_by : Wait → Value → Frame → Frame
resumed_by Push v f = next_with (v ∷ []) (waiting Not f)
resumed_by Drop v f = next (waiting Not f)
resumed_by (Keep kept) v f = next_with (kept ∷ []) (waiting Not f)
resumed_by Again v f = waiting Not f
resumed_by (New n) v f = waiting Not f
resumed_by Not v f = waiting Not f

-- a frame that waited goes on with v, which a call returned
abbrev pub after_return : Value → Frame → Frame
after_return v f = resumed_by f.wait v f

-- with so many arguments an object is made of what returns
abbrev pub makes_of : Wait → Option ℕ
makes_of Push = None
makes_of Drop = None
makes_of (Keep kept) = None
makes_of Again = None
makes_of (New n) = Some n
makes_of Not = None
