-- What a part of a step keeps: a sound world that grew, and what it comes to.
use Rattle.std.specs.Prelude.{◌≡◌, ℕ, ◌<◌, length, slice_get, true, Some}
use Rattle.abc_base.specs.declared.names.HostClass.{HostClass}
use Rattle.abc_base.specs.declared.names.HostClass.TheVariants as hosts
use Rattle.abc_heap_values.specs.declared.values.ObjId.{ObjId}
use Rattle.abc_heap_store.specs.Heap.{Heap}
use Rattle.abc_objects.specs.Growing.{Grows}
use Rattle.abc_objects.specs.Stands.{IsScope}
use Rattle.abc_objects.specs.Values.{Exists}
use Rattle.abc_verify_typing.specs.Instructions.{opcode}
use Rattle.abc_verify_typing.specs.Rows.{Shape, row_at}
use Rattle.abc_file_types.specs.declared.code.Instr.{Instr}
use Rattle.abc_verify_typing.specs.Lists.{Each}
use Rattle.abc_verify_typing.specs.Routines.{Routine}
use Rattle.abc_verify_typing.specs.Rules.{keeps}
use Rattle.abc_verify_typing.specs.Standing.{IsWithinSizes, here_with}
use Rattle.abc_verify_typing.specs.declared.rule.VerifyRule.{VerifyRule}
use Rattle.abc_verify_typing.specs.declared.state.State.{State}
use Rattle.abc_meaning.specs.Calling.{Came, Calls, Got, Makes}
use Rattle.abc_frames.specs.Frame.{Frame}
use Rattle.abc_meaning.specs.Setting.{Setting, routine_of}
use Rattle.abc_meaning.specs.World.{Errs, Outcome, Sticks, Stop, Stopped, Throws, Went, World}
use Rattle.abc_frames.specs.declared.records.Wait.TheVariants as waits
use Rattle.abc_meaning.specs.At.{Above, Act, Doing, Goes, Returns, Stays, Top}
use Rattle.abc_meaning.specs.Table.{acts}
use Rattle.abc_meaning.specs.Sound.{FrameSound, IsOfState, Typings, WaitingSound, WorldSound}
use Rattle.abc_meaning.specs.Tests.{at_frame}

-- a heap that grew: what was there is there, class objects stay, and the limits are the same
pub record Evolves (old new : Heap) : Type 0 where
  pub grows : Grows old new
  pub classes : (k : ℕ) (o : ObjId) → slice_get old.classes k ≡ Some (Some o) → slice_get new.classes k ≡ Some (Some o)
  pub limits : new.limits ≡ old.limits

pub record LeavesSound (p : Setting) (w n : World) : Type 0 where
  pub sound : WorldSound p n
  pub grows : Evolves w.heap n.heap

-- the errors that instructions throw
abbrev pub IsError : HostClass → Type 0
IsError hosts.TypeError = Unit {0}
IsError hosts.ReferenceError = Unit {0}
IsError hosts.ArgumentError = Unit {0}
IsError c = ⊥

abbrev pub StopSound : Setting → World → Stop → Type 0
StopSound p n (Throws v) = Exists p.linked n.heap v
StopSound p n (Errs c) = IsError c
StopSound p n Sticks = ⊥
StopSound p n why = Unit {0}

-- it goes on with what Q says, or stops, and is not stuck
abbrev pub FaresSo : {X : Type 0} → Setting → World → Outcome X → (World → X → Type 0) → Type 0
FaresSo p w (Went n x) Q = LeavesSound p w n × Q n x
FaresSo p w (Stopped n why) Q = LeavesSound p w n × StopSound p n why

pub record Fares {X : Type 0} (p : Setting) (w : World) (o : Outcome X) (Q : World → X → Type 0) : Type 0 where
  pub so : FaresSo p w o Q

-- of frame f, or of one that is entered above it
abbrev pub TopSound : Setting → Typings → Frame → World → Top → Type 0
TopSound p typings f n (Stays g) = (g.method ≡ f.method) × FrameSound p typings n.heap g
TopSound p typings f n (Above g b) = (b.method ≡ f.method) × FrameSound p typings n.heap g × WaitingSound p typings n.heap b

abbrev pub ActSound : Setting → Typings → Frame → World → Act → Type 0
ActSound p typings f n (Goes top) = TopSound p typings f n top
ActSound p typings f n (Returns v) = Exists p.linked n.heap v

-- what a read, a call or a new comes to
abbrev pub CameSound : Setting → Typings → World → Came → Type 0
CameSound p typings n (Got v) = Exists p.linked n.heap v
CameSound p typings n (Calls g) = FrameSound p typings n.heap g
CameSound p typings n (Makes g v) = FrameSound p typings n.heap g × Exists p.linked n.heap v

-- an instruction of a frame that is of the kinds of its place
pub record Ready (p : Setting) (typings : Typings) (w : World) (f : Frame) (r : Routine) (s : State) (instr : Instr) (row : Shape) : Type 0 where
  pub world : WorldSound p w
  pub body : routine_of p f.method ≡ Some r
  pub home : f.home < length p.linked.file.scripts
  pub saved : IsScope w.heap f.saved
  pub idle : f.wait ≡ waits.Not
  pub sized : IsWithinSizes r s
  pub at : slice_get r.code f.place ≡ Some instr
  pub row_is : row_at (opcode instr) ≡ Some row
  pub typed : typings f.method f.place ≡ Some s
  pub is : IsOfState p.linked w.heap s f
  pub kept : (rule : VerifyRule) → keeps (here_with p.linked r f.place instr row) s rule ≡ true

-- an act that is sound wherever an instruction of the row stands
abbrev pub DoingSound : Setting → Typings → ℕ → Shape → Doing → Type 0
DoingSound p typings op row d = (w : World) (f : Frame) (r : Routine) (s : State) (instr : Instr) → Ready p typings w f r s instr row → opcode instr ≡ op → Fares p w (d (at_frame p (here_with p.linked r f.place instr row) f) w) (ActSound p typings f)

-- an entry of the table of acts is sound at each row of its opcode
abbrev pub EntrySound : Setting → Typings → ℕ × Doing → Type 0
EntrySound p typings e = (row : Shape) → row_at e.0 ≡ Some row → DoingSound p typings e.0 row e.1

abbrev pub GroupsHold : Setting → Typings → Type 0
GroupsHold p typings = Each (EntrySound p typings) acts
