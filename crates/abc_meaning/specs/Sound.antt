-- Sound states: what they name is there, values are of the kinds of their places, and the ledger is right.
use Rattle.std.specs.Prelude.{◌≡◌, ◌≢◌, ℕ, ◌+◌, ◌^◌, ◌<◌, ◌≤◌, List, [], ◌∷◌, false, length, take, drop, slice_get, Option, Some, None}
use Rattle.abc_heap_values.specs.declared.values.Value.{Value}
use Rattle.abc_heap_values.specs.declared.values.Value.TheVariants.{Obj}
use Rattle.abc_heap_values.specs.declared.values.ObjId.{ObjId}
use Rattle.abc_base_graphs.specs.Graph.{Leads}
use Rattle.abc_heap_store.specs.Heap.{Heap, Object, cells_used}
use Rattle.abc_heap_store.specs.declared.records.Limits.{Limits}
use Rattle.abc_heap_store.specs.declared.records.ScopeEntry.{ScopeEntry}
use Rattle.abc_heap_store.specs.declared.records.What.{What}
use Rattle.abc_heap_store.specs.declared.records.What.TheVariants as whats
use Rattle.abc_objects.specs.Opening.{formula_names}
use Rattle.abc_objects.specs.Stands.{IsScope, StandsOver}
use Rattle.abc_objects.specs.Values.{Exists, IsValueOf}
use Rattle.abc_link_names.specs.Kinds.{IsAtMost}
use Rattle.abc_link_names.specs.Linked.{LinkedFile, layout_of}
use Rattle.abc_link_names.specs.Numbering.{part_at}
use Rattle.abc_link_names.specs.Owners.{owner_of}
use Rattle.abc_link_names.specs.Slots.{slots_of}
use Rattle.abc_link_names.specs.Types.{kind_of_type}
use Rattle.abc_link_names.specs.declared.part.Part.{Part}
use Rattle.abc_link_names.specs.declared.part.Part.TheVariants as parts
use Rattle.abc_link_names.specs.declared.types.Kind.{Kind}
use Rattle.abc_link_names.specs.declared.types.Kind.TheVariants.{Any}
use Rattle.abc_link_names.specs.declared.types.Owner.TheVariants.{Free}
use Rattle.abc_link_names.specs.declared.types.SlotInfo.{SlotInfo}
use Rattle.abc_link_names.specs.Bases.{base_graph, is_interface}
use Rattle.abc_verify_typing.specs.Lists.{Each, Each2}
use Rattle.abc_verify_typing.specs.Routines.{Routine, this_kind}
use Rattle.abc_verify_typing.specs.Typing.{IsTyping}
use Rattle.abc_verify_typing.specs.declared.state.Scope.{Scope}
use Rattle.abc_verify_typing.specs.declared.state.State.{State}
use Rattle.abc_frames.specs.Frame.{Frame}
use Rattle.abc_meaning.specs.Setting.{Setting, routine_of}
use Rattle.abc_meaning.specs.World.{World}
use Rattle.abc_frames.specs.declared.records.Wait.{Wait}
use Rattle.abc_frames.specs.declared.records.Wait.TheVariants as waits
use Rattle.abc_meaning.specs.At.{next_frame, after_pushes}
use Rattle.abc_meaning.specs.Step.{size_of_frames}
use Rattle.abc_meaning.specs.Throwing.{Ends, Machine, Stepped, Steps, Stuck}

-- ---- values

-- what a value names exists, and it is of a kind
pub record IsOfKind (l : LinkedFile) (h : Heap) (k : Kind) (v : Value) : Type 0 where
  pub exists : Exists l h v
  pub kind : IsValueOf l h k v

-- ---- objects

abbrev pub SlotHolds : LinkedFile → Heap → SlotInfo → Value → Type 0
SlotHolds l h slot v = IsOfKind l h (kind_of_type l slot.ty) v

-- a method that no one owns is bound to nothing, and another to an object of its owner's layout or below
abbrev pub IsBound : LinkedFile → Heap → ℕ → Option ObjId → Type 0
IsBound l h n None = owner_of l.file n ≡ Free
IsBound l h n (Some o) = IsOfKind l h (this_kind l (owner_of l.file n)) (Obj o)

pub record FunctionSound (p : Setting) (h : Heap) (n : ℕ) (bound : Option ObjId) : Type 0 where
  pub routine : Routine
  pub body : routine_of p n ≡ Some routine
  pub bound_to : IsBound p.linked h n bound

-- a function's method has a body, and a class object has the layout of its class
abbrev pub WhatSound : Setting → Heap → (layout : ℕ) → What → Type 0
WhatSound p h x (whats.Closure n home scope bound) = FunctionSound p h n bound
WhatSound p h x (whats.ClassObject k home statics instances) = x ≡ (layout_of p.linked (parts.ClassObject k)).0
WhatSound p h x other = Unit {0}

-- the class objects of a class and of all its bases in the file
abbrev pub HasClassMade : Heap → ℕ → Type 0
HasClassMade h k = (o : ObjId) × (slice_get h.classes k ≡ Some (Some o))

pub record AreClassesMade (l : LinkedFile) (h : Heap) (k : ℕ) : Type 0 where
  pub own : HasClassMade h k
  pub bases : (b : ℕ) → Leads (base_graph l.file) k b → HasClassMade h b

-- an instance and a class object need these, and an interface has no instance
abbrev pub PartSound : LinkedFile → Heap → Part → Type 0
PartSound l h (parts.Instance k) = (is_interface l.file k ≡ false) × AreClassesMade l h k
PartSound l h (parts.ClassObject k) = AreClassesMade l h k
PartSound l h other = Unit {0}

-- a layout is the first of its part
abbrev pub IsFirstOf : LinkedFile → ℕ → Type 0
IsFirstOf l x = x ≡ (layout_of l (part_at l.parts x)).0

pub record ObjectSound (p : Setting) (h : Heap) (ob : Object) : Type 0 where
  pub slots : Each2 (SlotHolds p.linked h) (slots_of p.linked ob.layout) ob.slots
  pub what : WhatSound p h ob.layout ob.what
  pub part : PartSound p.linked h (part_at p.linked.parts ob.layout)
  pub first_of : IsFirstOf p.linked ob.layout

-- ---- the heap

-- objects, cells and bytes of texts are within their limits, and cells can be counted by 32 bits
pub record IsHeapWithin (h : Heap) : Type 0 where
  pub objects : length h.objects ≤ h.limits.objects
  pub cells : cells_used h ≤ h.limits.cells
  pub text : length h.made ≤ h.limits.text
  pub counted : h.limits.cells < 2 ^ 32

-- all that is named is there, the objects and scopes of the opening among it; each object is what its layout says
pub record WorldSound (p : Setting) (w : World) : Type 0 where
  pub stands : StandsOver p.linked w.heap
  pub objects : (o : ℕ) (ob : Object) → slice_get w.heap.objects o ≡ Some ob → ObjectSound p w.heap ob
  pub formulas : w.heap.formulas ≡ formula_names p.formulas
  pub scripts : length w.started ≡ length p.linked.file.scripts
  pub within : IsHeapWithin w.heap

-- ---- frames

-- the states of each method's typing
abbrev pub Typings : Type 0
Typings = (method place : ℕ) → Option State

pub record ScopeHolds (l : LinkedFile) (h : Heap) (s : Scope) (e : ScopeEntry) : Type 0 where
  pub object : IsOfKind l h s.kind (Obj e.object)
  pub flag : s.is_with ≡ e.with_flag

-- operands, scopes and locals are of the kinds of a state
pub record IsOfState (l : LinkedFile) (h : Heap) (s : State) (f : Frame) : Type 0 where
  pub stack : Each2 (IsOfKind l h) s.stack f.stack
  pub scopes : Each2 (ScopeHolds l h) s.scopes f.scopes
  pub locals : Each2 (IsOfKind l h) s.locals f.locals

-- what a return takes from the stack of a frame, and what it puts on it
abbrev pub taken_by_return : Wait → ℕ
taken_by_return (waits.New n) = n
taken_by_return wait = 0

abbrev pub put_by_return : Wait → ℕ
put_by_return waits.Push = 1
put_by_return (waits.Keep v) = 1
put_by_return (waits.New n) = 1
put_by_return wait = 0

-- a frame's method has a body, to whose sizes it keeps, also at a return
pub record FrameStands (p : Setting) (h : Heap) (f : Frame) : Type 0 where
  pub routine : Routine
  pub body : routine_of p f.method ≡ Some routine
  pub home : f.home < length p.linked.file.scripts
  pub saved : IsScope h f.saved
  pub locals : length f.locals ≡ routine.local_count
  pub stack : length f.stack + put_by_return f.wait ≤ routine.max_stack + taken_by_return f.wait
  pub scopes : length f.scopes ≤ routine.scope_size

-- it is of the kinds of its place
pub record IsFrameTyped (p : Setting) (typings : Typings) (h : Heap) (f : Frame) : Type 0 where
  pub state : State
  pub typed : typings f.method f.place ≡ Some state
  pub is : IsOfState p.linked h state f

-- the newest frame, which waits for nothing
pub record FrameSound (p : Setting) (typings : Typings) (h : Heap) (f : Frame) : Type 0 where
  pub stands : FrameStands p h f
  pub idle : f.wait ≡ waits.Not
  pub typed : IsFrameTyped p typings h f

-- with any value pushed it is of the kinds of the next place
pub record IsTypedPushed (p : Setting) (typings : Typings) (h : Heap) (f : Frame) : Type 0 where
  pub state : State
  pub typed : typings f.method (f.place + 1) ≡ Some state
  pub top : Kind
  pub rest : List Kind
  pub stack : state.stack ≡ top ∷ rest
  pub any : IsAtMost p.linked Any top
  pub is : IsOfState p.linked h (record state { stack = rest }) f

-- the arguments that a frame keeps for what returns
pub record KeepsArguments (p : Setting) (typings : Typings) (h : Heap) (f : Frame) (n : ℕ) : Type 0 where
  pub there : n ≤ length f.stack
  pub exist : Each (Exists p.linked h) (take n f.stack)
  pub typed : IsTypedPushed p typings h (record f { stack = drop n f.stack })

-- with what it waits for, a waiting frame is of the kinds of the next place; one that executes its instruction again, of its place
abbrev pub WaitSound : Setting → Typings → Heap → Frame → Wait → Type 0
WaitSound p typings h f waits.Push = IsTypedPushed p typings h f
WaitSound p typings h f waits.Drop = IsFrameTyped p typings h (next_frame f)
WaitSound p typings h f (waits.Keep v) = IsFrameTyped p typings h (after_pushes (v ∷ []) f)
WaitSound p typings h f waits.Again = IsFrameTyped p typings h f
WaitSound p typings h f (waits.New n) = KeepsArguments p typings h f n
WaitSound p typings h f waits.Not = ⊥

-- its locals are of the kinds of its place, which a throw goes on with
pub record IsCatching (p : Setting) (typings : Typings) (h : Heap) (f : Frame) : Type 0 where
  pub state : State
  pub typed : typings f.method f.place ≡ Some state
  pub locals : Each2 (IsOfKind p.linked h) state.locals f.locals

pub record WaitingSound (p : Setting) (typings : Typings) (h : Heap) (f : Frame) : Type 0 where
  pub stands : FrameStands p h f
  pub catches : IsCatching p typings h f
  pub waits : WaitSound p typings h f f.wait

abbrev pub FramesSound : Setting → Typings → Heap → List Frame → Type 0
FramesSound p typings h [] = Unit {0}
FramesSound p typings h (f ∷ fs) = FrameSound p typings h f × Each (WaitingSound p typings h) fs

-- ---- the whole state: frames and the values that they may keep are within their limits too

pub record FramesFit (p : Setting) (limits : Limits) (fs : List Frame) : Type 0 where
  pub frames : length fs ≤ limits.frames
  pub stack : size_of_frames p fs ≤ limits.stack

pub record IsSound (p : Setting) (typings : Typings) (q : Machine) : Type 0 where
  pub world : WorldSound p q.world
  pub frames : FramesSound p typings q.world.heap q.frames
  pub room : FramesFit p q.world.heap.limits q.frames

-- what a step leaves: a sound state, or an end that is not Stuck
abbrev pub SteppedSound : Setting → Typings → Stepped → Type 0
SteppedSound p typings (Steps q) = IsSound p typings q
SteppedSound p typings (Ends w e) = (e ≢ Stuck) × WorldSound p w

-- each method that has a body has a typing
abbrev pub AreTypings : Setting → Typings → Type 0
AreTypings p typings = (n : ℕ) (r : Routine) → routine_of p n ≡ Some r → IsTyping p.linked r (typings n)
