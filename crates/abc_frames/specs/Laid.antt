-- Frames as they stand in flat lists. The frame that is entered first stands over a ground, a head that keeps nothing.
use Rattle.std.specs.Prelude.{◌≡◌, ℕ, ◌+◌, ◌-◌, ◌<◌, ◌≤◌, ◌^◌, List, [], ◌∷◌, length, take, drop, reverse, None}
use Rattle.abc_heap_values.specs.declared.values.Value.{Value}
use Rattle.abc_heap_values.specs.Filling.{Filling}
use Rattle.abc_heap_store.specs.declared.records.ScopeEntry.{ScopeEntry}
use Rattle.abc_frames.specs.declared.records.Below.{Below}
use Rattle.abc_frames.specs.declared.records.Entry.{Entry}
use Rattle.abc_frames.specs.declared.records.Head.{Head}
use Rattle.abc_frames.specs.declared.records.Marks.{Marks}
use Rattle.abc_frames.specs.declared.records.Size.{Size}
use Rattle.abc_frames.specs.declared.records.Wait.TheVariants.{Not}
use Rattle.abc_frames.specs.Frame.{Frame, Frames, total_size}

-- ---- what contracts see

-- a frame whose operands and scopes go up to the ends of the lists
abbrev pub frame_of : Head → List Value → List ScopeEntry → Frame
frame_of h vs ss = record { method = h.method; home = h.home; saved = h.saved; stack = reverse (drop h.marks.stack_at vs); scopes = drop h.marks.scopes_at ss; locals = drop h.marks.locals_at (take h.marks.stack_at vs); place = h.place; wait = h.wait }

-- the frames of a head and of those below it, the newest of these first; the last is the ground
abbrev pub living_in : Head → List Below → List Value → List ScopeEntry → List Frame
living_in h [] vs ss = []
living_in h (b ∷ bs) vs ss = frame_of h vs ss ∷ living_in b.head bs (take b.values vs) (take b.scopes ss)

abbrev pub size_between : Marks → Size
size_between m = record { locals = m.stack_at - m.locals_at; stack = m.max_stack; scopes = m.max_scopes }

abbrev pub sizes_between : Marks → List Below → List Size
sizes_between m [] = []
sizes_between m (b ∷ bs) = size_between m ∷ sizes_between b.head.marks bs

abbrev pub frames_in : Head → Filling Below → Filling Value → Filling ScopeEntry → Frames
frames_in h below values scopes = record { living = living_in h (reverse below.items) values.items scopes.items; sizes = sizes_between h.marks (reverse below.items); frame_limit = below.limit; value_limit = values.limit }

-- ---- how they lie

-- a frame whose operands end at one position and its scopes at another
pub record IsFrameWithin (m : Marks) (values scopes : ℕ) : Type 0 where
  pub locals : m.locals_at ≤ m.stack_at
  pub stack : m.stack_at ≤ values
  pub stack_room : values ≤ m.stack_at + m.max_stack
  pub scopes_from : m.scopes_at ≤ scopes
  pub scopes_room : scopes ≤ m.scopes_at + m.max_scopes
  pub used : (m.stack_at + m.max_stack) + (m.scopes_at + m.max_scopes) ≤ m.used

-- a frame over another: it begins where the other ends, or above
pub record IsOver (m : Marks) (b : Below) : Type 0 where
  pub values : b.values ≤ m.locals_at
  pub scopes : b.scopes ≤ m.scopes_at
  pub used : m.used ≡ total_size (size_between m) + b.head.marks.used
  pub within : IsFrameWithin b.head.marks b.values b.scopes

abbrev pub AreFramesLaid : Marks → List Below → Type 0
AreFramesLaid m [] = m.used ≡ 0
AreFramesLaid m (b ∷ bs) = IsOver m b × AreFramesLaid b.head.marks bs

pub record IsLaid (m : Marks) (below : Filling Below) (values : Filling Value) (scopes : Filling ScopeEntry) : Type 0 where
  pub newest : IsFrameWithin m (length values.items) (length scopes.items)
  pub laid : AreFramesLaid m (reverse below.items)
  pub used : m.used ≤ values.limit
  pub limit : scopes.limit ≡ values.limit
  pub small : values.limit < 2 ^ 32

-- ---- heads that are made

abbrev pub ground_head : Head
ground_head = record { method = 0; home = 0; saved = None; place = 0; wait = Not; marks = record { locals_at = 0; stack_at = 0; scopes_at = 0; max_stack = 0; max_scopes = 0; used = 0 } }

-- over a frame, from these places on
abbrev pub new_marks : Marks → Size → ℕ → ℕ → Marks
new_marks m s locals_at scopes_at = record { locals_at = locals_at; stack_at = locals_at + s.locals; scopes_at = scopes_at; max_stack = s.stack; max_scopes = s.scopes; used = m.used + total_size s }

abbrev pub new_head : Marks → Entry → ℕ → ℕ → Head
new_head m e locals_at scopes_at = record { method = e.method; home = e.home; saved = e.saved; place = 0; wait = Not; marks = new_marks m e.size locals_at scopes_at }
