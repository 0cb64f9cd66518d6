-- What comes of a step's parts, for the code that does them.
use Rattle.std.specs.Prelude.{◌≡◌, ◌≢◌, ◌+◌, ◌<◌, ◌≤◌, ◌^◌, length}
use Rattle.abc_meaning.specs.At.{Above, Act, Goes, Returns, Stays}
use Rattle.abc_base.specs.declared.names.HostClass.TheVariants as hosts
use Rattle.abc_heap_store.specs.Heap.{Heap}
use Rattle.abc_meaning.specs.Sound.{WorldSound, put_by_return, taken_by_return}
use Rattle.abc_objects.specs.Growing.{Grows}
use Rattle.abc_objects.specs.Stands.{AreEntries, EachAt, IsScope}
use Rattle.abc_objects.specs.Values.{Exists}
use Rattle.abc_frames.specs.Frame.{Frame}
use Rattle.abc_verify_typing.specs.Routines.{Routine}
use Rattle.abc_meaning.specs.Setting.{Setting, routine_of}
use Rattle.abc_meaning.specs.World.{Errs, Faults, Fills, Outcome, Sticks, Stop, Stopped, Throws, Went, World}
use Rattle.std.specs.Prelude.{Some}

-- the world that is left is sound, grew, and keeps the limits
pub record IsLeft (p : Setting) (w n : World) : Type 0 where
  pub sound : WorldSound p n
  pub grows : Grows w.heap n.heap
  pub limits : n.heap.limits ≡ w.heap.limits

-- a value that is thrown is there, and an error that is made is no array
abbrev pub IsFairStop : Setting → World → Stop → Type 0
IsFairStop p n (Throws v) = Exists p.linked n.heap v
IsFairStop p n (Errs c) = c ≢ hosts.Array
IsFairStop p n (Faults fault) = Unit {0}
IsFairStop p n (Fills limit) = Unit {0}
IsFairStop p n Sticks = ⊥

-- the frame stays one of its method, and what returns is there
abbrev pub IsFairAct : Setting → Frame → World → Act → Type 0
IsFairAct p f n (Goes (Stays g)) = g.method ≡ f.method
IsFairAct p f n (Goes (Above g b)) = b.method ≡ f.method
IsFairAct p f n (Returns v) = Exists p.linked n.heap v

abbrev pub IsFairAs : Setting → Frame → World → Outcome Act → Type 0
IsFairAs p f w (Went n act) = IsLeft p w n × IsFairAct p f n act
IsFairAs p f w (Stopped n why) = IsLeft p w n × IsFairStop p n why

-- a part of a step
abbrev pub IsFairPart : {X : Type 0} → Setting → World → Outcome X → Type 0
IsFairPart p w (Went n x) = IsLeft p w n
IsFairPart p w (Stopped n why) = IsLeft p w n × IsFairStop p n why

-- a frame that waits: what it names is there, also in a heap that grew, and there is room for what returns
pub record IsWaiting (p : Setting) (h : Heap) (f : Frame) : Type 0 where
  pub stack : EachAt (Exists p.linked h) f.stack
  pub locals : EachAt (Exists p.linked h) f.locals
  pub scopes : AreEntries h f.scopes
  pub saved : IsScope h f.saved
  pub home : f.home < length p.linked.file.scripts
  pub routine : Routine
  pub body : routine_of p f.method ≡ Some routine
  pub room : length f.stack + put_by_return f.wait ≤ routine.max_stack + taken_by_return f.wait
  pub place : f.place + 1 < 2 ^ 32
  pub this : 0 < length f.locals
