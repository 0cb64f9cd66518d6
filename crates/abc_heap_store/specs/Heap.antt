-- The heap of records, of which all contracts speak, and its ledger (profile: docs/MACHINE.md, "Heap and room").
use Rattle.std.specs.Prelude.{◌≡◌, ℕ, zero, suc, ◌+◌, ◌<◌, ◌≤◌, List, [], ◌∷◌, length, Option, None}
use Rattle.abc_heap_values.specs.declared.values.Span.{Span}
use Rattle.abc_heap_values.specs.declared.values.ObjId.{ObjId}
use Rattle.abc_heap_values.specs.declared.values.Value.{Value}
use Rattle.abc_heap_store.specs.declared.records.What.{What}
use Rattle.abc_heap_store.specs.declared.records.What.TheVariants.{Plain}
use Rattle.abc_heap_store.specs.declared.records.ScopeNode.{ScopeNode}
use Rattle.abc_heap_store.specs.declared.records.Limits.{Limits}
use Rattle.abc_heap_store.specs.declared.records.Limit.{Limit}
use Rattle.abc_heap_store.specs.declared.records.Limit.TheVariants.{Objects, Cells, Text, Frames, Stack}
use Rattle.abc_heap_store.specs.declared.records.Full.{Full}

-- a deleted property leaves its position empty
pub record Object : Type 0 where
  pub layout : ℕ
  pub delegate : Option ObjId
  pub slots : List Value
  pub properties : List (Option (Span × Value))
  pub elements : List Value
  pub what : What

-- an object's id is its position; the texts made stand one after the other
pub record Heap : Type 0 where
  pub objects : List Object
  pub scopes : List ScopeNode
  -- the fixed texts, then the names of the host's formulas
  pub fixed : List ℕ
  pub made : List ℕ
  pub formulas : List (List ℕ)
  -- the strings of the file that the heap was made over
  pub strings : List (List ℕ)
  -- the class object of each class of the file
  pub classes : List (Option ObjId)
  pub frames : ℕ
  pub stack : ℕ
  pub limits : Limits

abbrev pub obj_id : ℕ → ObjId
obj_id n = record { 0 = n }

-- ---- the ledger

abbrev pub cells_of : Object → ℕ
cells_of ob = length ob.slots + length ob.properties + length ob.elements

abbrev pub all_cells : List Object → ℕ
all_cells [] = 0
all_cells (ob ∷ obs) = cells_of ob + all_cells obs

-- the cells that a heap uses: those of all objects, and one for each captured scope
abbrev pub cells_used : Heap → ℕ
cells_used h = all_cells h.objects + length h.scopes

-- how much of each limit is used: objects, cells, bytes of made texts, frames and stack
abbrev pub ledger : Heap → Limits
ledger h = record { objects = length h.objects; cells = cells_used h; text = length h.made; frames = h.frames; stack = h.stack }

-- ---- room

-- a count and its need pass the limit, and nothing was changed
abbrev pub IsFull : Heap → Heap → ℕ → ℕ → ℕ → Limit → Full → Type 0
IsFull old new used need limit which e = (e ≡ record { 0 = which }) × (limit < used + need) × (new ≡ old)

-- need more cells are there, and the heap is the new one
abbrev pub FitsCells : Heap → Heap → ℕ → Heap → Type 0
FitsCells old new need grown = (cells_used old + need ≤ old.limits.cells) × (new ≡ grown)

-- so many objects more, and so many cells more, are within the limits
abbrev pub HasRoomFor : Heap → ℕ → ℕ → Type 0
HasRoomFor old objects cells = (length old.objects + objects ≤ old.limits.objects) × (cells_used old + cells ≤ old.limits.cells)

-- some objects and cells at once are too many: the objects are tested first
abbrev pub PassesLimit : Heap → ℕ → ℕ → Limit → Type 0
PassesLimit old objects cells Objects = old.limits.objects < length old.objects + objects
PassesLimit old objects cells Cells = (length old.objects + objects ≤ old.limits.objects) × (old.limits.cells < cells_used old + cells)
PassesLimit old objects cells Text = ⊥
PassesLimit old objects cells Frames = ⊥
PassesLimit old objects cells Stack = ⊥

-- nothing was changed, and the answer names the limit that so many objects and cells would pass
abbrev pub IsFullOf : Heap → Heap → ℕ → ℕ → Full → Type 0
IsFullOf old new objects cells e = (new ≡ old) × PassesLimit old objects cells e.0

-- a frame with some values is too much: the frames are tested first
abbrev pub PassesFrames : Heap → ℕ → Limit → Type 0
PassesFrames old values Frames = old.limits.frames < old.frames + 1
PassesFrames old values Stack = (old.frames + 1 ≤ old.limits.frames) × (old.limits.stack < old.stack + values)
PassesFrames old values Objects = ⊥
PassesFrames old values Cells = ⊥
PassesFrames old values Text = ⊥

-- ---- the parts of an object

-- object o, or an empty one past the end
abbrev pub object_at : List Object → ℕ → Object
object_at [] o = record { layout = 0; delegate = None; slots = []; properties = []; elements = []; what = Plain }
object_at (ob ∷ obs) zero = ob
object_at (ob ∷ obs) (suc o) = object_at obs o

-- the slots of object o
abbrev pub slots_of_object : List Object → ℕ → List Value
slots_of_object obs o = (object_at obs o).slots

-- the properties of object o, by place; none at a place where one was deleted
abbrev pub properties_of : List Object → ℕ → List (Option (Span × Value))
properties_of obs o = (object_at obs o).properties

-- the elements of object o
abbrev pub elements_of : List Object → ℕ → List Value
elements_of obs o = (object_at obs o).elements
