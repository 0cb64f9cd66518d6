-- What the parts of a step do: each goes on with a value, or stops the step. The order of the parts is the order of effects and of room
-- (profile: docs/MACHINE.md, "A step").
use Rattle.std.specs.Prelude.{ℕ, ◌+◌, List, [], ◌∷◌, ◌++◌, Bool, true, false, length, slice_get, Some, None, nat_le, if◌then◌else◌}
use Rattle.std.specs.declared.option.Option.{Option}
use Rattle.abc_base.specs.declared.names.Fault.{Fault}
use Rattle.abc_base.specs.declared.names.HostClass.{HostClass}
use Rattle.abc_heap_values.specs.declared.values.ObjId.{ObjId}
use Rattle.abc_heap_values.specs.declared.values.Value.{Value}
use Rattle.abc_heap_store.specs.Heap.{Heap, Object, cells_used}
use Rattle.abc_heap_store.specs.declared.records.Limit.{Limit}
use Rattle.abc_heap_store.specs.declared.records.Limit.TheVariants.{Objects, Cells}

-- the heap, which scripts were started, and the bytes written
pub record World : Type 0 where
  pub heap : Heap
  pub started : List Bool
  pub wrote : List ℕ

-- why a step goes no further: a thrown value, an error of a class of the host, a fault, a limit, or a test that fails
pub data Stop : Type 0 where
  Throws : Value → Stop
  Errs : HostClass → Stop
  Faults : Fault → Stop
  Fills : Limit → Stop
  Sticks : Stop

-- what a part of a step comes to: it went on with a value, or it stopped; and the world that it left
pub data Outcome (X : Type 0) : Type 0 where
  Went : (world : World) → (value : X) → Outcome X
  Stopped : (world : World) → (why : Stop) → Outcome X

abbrev pub Run : Type 0 → Type 0
Run X = World → Outcome X

-- ---- going on and stopping

-- it goes on with x, and changes nothing
abbrev pub pure : {X : Type 0} → X → Run X
pure x w = Went w x

abbrev pub stop : {X : Type 0} → Stop → Run X
stop why w = Stopped w why

-- an error of this class is thrown
abbrev pub throws : {X : Type 0} → HostClass → Run X
throws c = stop (Errs c)

abbrev pub fails : {X : Type 0} → Fault → Run X
fails fault = stop (Faults fault)

abbrev pub sticks : {X : Type 0} → Run X
sticks = stop Sticks

abbrev pub and_then : {X Y : Type 0} → Outcome X → (X → Run Y) → Outcome Y
and_then (Went w x) f = f x w
and_then (Stopped w why) f = Stopped w why

-- one thing, and then another
infixl 10 ◌>>=◌
abbrev pub ◌>>=◌ : {X Y : Type 0} → Run X → (X → Run Y) → Run Y
(m >>= f) w = and_then (m w) f

infixl 10 ◌>>◌
abbrev pub ◌>>◌ : {X Y : Type 0} → Run X → Run Y → Run Y
m >> n = m >>= λ x. n

-- each in turn
abbrev pub each_of : {X Y : Type 0} → (X → Run Y) → List X → Run (List Y)
each_of f [] = pure []
each_of f (x ∷ xs) = f x >>= λ y. each_of f xs >>= λ ys. pure (y ∷ ys)

-- ---- tests: what is found has to be there

abbrev pub some : {X : Type 0} → Option X → Run X
some None = sticks
some (Some x) = pure x

abbrev pub must : Bool → Run (Unit {0})
must true = pure tt
must false = sticks

-- ---- the world as it is

abbrev pub see : {X : Type 0} → (World → X) → Run X
see f w = Went w (f w)

abbrev pub the : {X : Type 0} → (World → Option X) → Run X
the f w = some (f w) w

abbrev pub object_named : ObjId → World → Option Object
object_named o w = slice_get w.heap.objects o.0

-- ---- changes

abbrev pub with_heap : (Heap → Heap) → World → World
with_heap f w = record w { heap = f w.heap }

-- the heap is changed, and something of what it was is given
abbrev pub changes : {X : Type 0} → (Heap → Heap) → (Heap → X) → Run X
changes f x w = Went (with_heap f w) (x w.heap)

abbrev pub writes : List ℕ → Run (Unit {0})
writes bytes w = Went (record w { wrote = w.wrote ++ bytes }) tt

-- ---- room: so much more has to be within the limit; what is taken shows in the records

abbrev pub room : Limit → ℕ → ℕ → ℕ → Run (Unit {0})
room which used need limit = if nat_le (used + need) limit then pure tt else stop (Fills which)

abbrev pub room_for_objects : ℕ → Run (Unit {0})
room_for_objects need w = room Objects (length w.heap.objects) need w.heap.limits.objects w

abbrev pub room_for_cells : ℕ → Run (Unit {0})
room_for_cells need w = room Cells (cells_used w.heap) need w.heap.limits.cells w
