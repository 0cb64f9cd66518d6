-- Throws: the frames' handlers are tried, the newest frame first (Overview, chapter 3; profile: docs/MACHINE.md, "The rules of a run").
use Rattle.std.specs.Prelude.{ℕ, ◌-◌, List, [], ◌∷◌, Bool, false, ◌&&◌, nat_le, nat_lt, length, Some, None, if◌then◌else◌}
use Rattle.std.specs.declared.option.Option.{Option}
use Rattle.std.specs.List.{find}
use Rattle.abc_base.specs.declared.names.Fault.{Fault}
use Rattle.abc_base.specs.declared.names.HostClass.TheVariants as hosts
use Rattle.abc_heap_values.specs.declared.values.ObjId.{ObjId}
use Rattle.abc_heap_values.specs.declared.values.Value.{Value}
use Rattle.abc_heap_values.specs.declared.values.Value.TheVariants.{Undefined, Null, Num, Bool as Truth, Text, Space, Obj}
use Rattle.abc_heap_store.specs.Heap.{object_at}
use Rattle.abc_heap_store.specs.declared.records.Limit.{Limit}
use Rattle.abc_heap_store.specs.declared.records.What.TheVariants.{Plain}
use Rattle.abc_link_names.specs.Numbering.{part_at}
use Rattle.abc_link_names.specs.Owners.{body_of}
use Rattle.abc_link_names.specs.Types.{type_of}
use Rattle.abc_link_names.specs.declared.part.Part.{Part}
use Rattle.abc_link_names.specs.declared.part.Part.TheVariants as parts
use Rattle.abc_link_names.specs.declared.types.Ty.{Ty}
use Rattle.abc_link_names.specs.PartsByNumber.{body_at, script_at}
use Rattle.abc_file_types.specs.declared.code.Handler.{Handler}
use Rattle.abc_verify_typing.specs.Routines.{Routine}
use Rattle.abc_frames.specs.Frame.{Frame}
use Rattle.abc_meaning.specs.Objects.{new_of_host}
use Rattle.abc_meaning.specs.Setting.{Setting, routine_of}
use Rattle.abc_meaning.specs.Types.{is_of_type}
use Rattle.abc_meaning.specs.World.{Errs, Faults, Fills, Outcome, Sticks, Stop, Stopped, Throws, Went, World}
use Rattle.abc_frames.specs.declared.records.Wait.TheVariants as waits
use Rattle.abc_meaning.specs.declared.thrown.Thrown.{Thrown}
use Rattle.abc_meaning.specs.declared.thrown.Thrown.TheVariants as thrown

-- a state of the machine: the newest frame first
pub record Machine : Type 0 where
  pub world : World
  pub frames : List Frame

-- how a run ended; a profile fault has its method and the index of its instruction, here its place
pub data End : Type 0 where
  Done : End
  Uncaught : Thrown → End
  Profile : (method : ℕ) → (place : ℕ) → Fault → End
  FuelSpent : End
  Full : Limit → End
  Stuck : End

-- what a step leaves
pub data Stepped : Type 0 where
  Steps : Machine → Stepped
  Ends : World → End → Stepped

abbrev pub goes_on : World → List Frame → Stepped
goes_on w fs = Steps (record { world = w; frames = fs })

-- ---- what is thrown where nothing catches it

abbrev pub thrown_part : Part → Thrown
thrown_part (parts.Host c) = thrown.HostClass c
thrown_part (parts.Instance k) = thrown.FileClass k
thrown_part (parts.ClassObject k) = thrown.HostClass hosts.Class
thrown_part (parts.HostClassObject c) = thrown.HostClass hosts.Class
thrown_part (parts.Global s) = thrown.Global
thrown_part (parts.Activation b) = thrown.Activation
thrown_part (parts.Catch b e) = thrown.Catch

abbrev pub thrown_as : Setting → World → Value → Thrown
thrown_as p w Undefined = thrown.Undefined
thrown_as p w Null = thrown.Null
thrown_as p w (Num n) = thrown.HostClass hosts.Number
thrown_as p w (Truth b) = thrown.HostClass hosts.Boolean
thrown_as p w (Text t) = thrown.HostClass hosts.Str
thrown_as p w (Space n) = thrown.HostClass hosts.Namespace
thrown_as p w (Obj o) = thrown_part (part_at p.linked.parts (object_at w.heap.objects o.0).layout)

-- ---- the first handler whose range holds the place, and whose type the value is of

abbrev pub is_caught_as : Setting → World → Value → Option Ty → Bool
is_caught_as p w v None = false
is_caught_as p w v (Some t) = is_of_type p.linked w.heap t v

abbrev pub catches : Setting → World → Value → ℕ → Handler → Bool
catches p w v i h = nat_le h.from i && nat_lt i h.to && is_caught_as p w v (type_of p.linked h.exc_type)

abbrev pub handlers_in : Setting → Option ℕ → List Handler
handlers_in p None = []
handlers_in p (Some b) = (body_at p.linked.file b).handlers

abbrev pub handlers_of : Setting → ℕ → List Handler
handlers_of p n = handlers_in p (body_of p.linked.file n)

abbrev pub catcher : Setting → World → Value → Frame → Option Handler
catcher p w v f = find (catches p w v f.place) (handlers_of p f.method)

-- ---- unwinding: a handler goes on with the value alone on the stack and without scopes; without one the frame is left

abbrev pub has_stack : Option Routine → Bool
has_stack None = false
has_stack (Some r) = nat_lt 0 r.max_stack

abbrev pub caught_at : Value → ℕ → Frame → Frame
caught_at v target f = record f { stack = v ∷ []; scopes = []; place = target; wait = waits.Not }

abbrev pub lands : Setting → World → Value → Frame → List Frame → Option Handler → Stepped → Stepped
lands p w v f fs None otherwise = otherwise
lands p w v f fs (Some h) otherwise = if has_stack (routine_of p f.method) then goes_on w (caught_at v h.target f ∷ fs) else Ends w Stuck

abbrev pub unwinds : Setting → World → Value → List Frame → Stepped
unwinds p w v [] = Ends w (Uncaught (thrown_as p w v))
unwinds p w v (f ∷ fs) = lands p w v f fs (catcher p w v f) (unwinds p w v fs)

-- ---- why a step goes no further

-- an error is a new object of its class, without properties
abbrev pub throws_made : Setting → List Frame → Outcome ObjId → Stepped
throws_made p fs (Went w o) = unwinds p w (Obj o) fs
throws_made p fs (Stopped w (Fills limit)) = Ends w (Full limit)
throws_made p fs (Stopped w why) = Ends w Stuck

abbrev pub last_script : Setting → ℕ
last_script p = length p.linked.file.scripts - 1

-- the place of a fault is the instruction of the step; in the first script start, that script's init
abbrev pub fault_at : Setting → List Frame → Fault → End
fault_at p [] fault = Profile (script_at p.linked.file (last_script p)).init 0 fault
fault_at p (f ∷ fs) fault = Profile f.method f.place fault

-- what a step leaves that goes no further: what is thrown unwinds the frames, and all else ends the run
abbrev pub stops : Setting → World → List Frame → Stop → Stepped
stops p w fs (Throws v) = unwinds p w v fs
stops p w fs (Errs c) = throws_made p fs (new_of_host p c Plain w)
stops p w fs (Faults fault) = Ends w (fault_at p fs fault)
stops p w fs (Fills limit) = Ends w (Full limit)
stops p w fs Sticks = Ends w Stuck
