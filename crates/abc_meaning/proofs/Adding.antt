-- Parts of a step that write nothing and start no script, or do one of both once, and how they are put together.
use Rattle.std.proofs.Common.{◌≡◌, ℕ, ◌+◌, List, [], ◌∷◌, ◌++◌, length, refl, sym, ap, ◌∙◌, append_assoc, inl, inr}
use Rattle.std.proofs.lemmas.List.{append-nil}
use Rattle.std.specs.Prelude.{Bool, true, false, set, nat_le, Ok, Err, Some, None, if◌then◌else◌}
use Rattle.std.specs.declared.option.Option.{Option}
use Rattle.std.specs.declared.result.Result.{Result}
use Rattle.abc_heap_store.specs.Heap.{Heap, cells_used}
use Rattle.abc_heap_store.specs.declared.records.Limit.{Limit}
use Rattle.abc_heap_store.specs.declared.records.Limit.TheVariants.{Objects, Cells}
use Rattle.abc_ops.specs.Left.{Left}
use Rattle.abc_ops.specs.declared.end.OpEnd.{OpEnd}
use Rattle.abc_meaning.specs.Ops.{operates, outcome}
use Rattle.abc_meaning.specs.World.{Fills, Outcome, Run, Stop, Stopped, Went, World, and_then, pure, each_of, must, room, room_for_cells, room_for_objects, some, stop, with_heap}
use Rattle.abc_meaning.specs.Front.{Changes, IsWorldFront, FrontKeeps, Starts}

abbrev pub world_of : {X : Type 0} → Outcome X → World
world_of (Went n x) = n
world_of (Stopped n why) = n

-- nothing is written, and no script is started
pub record Quiet {X : Type 0} (w : World) (o : Outcome X) : Type 0 where
  pub kept : FrontKeeps w (world_of o)

-- something is written or a script is started, and not both
pub record Once {X : Type 0} (w : World) (o : Outcome X) : Type 0 where
  pub one : Changes w (world_of o)

-- a script is started, and nothing is written
pub record Starting {X : Type 0} (w : World) (o : Outcome X) : Type 0 where
  pub starts : Starts w (world_of o)

pub same_front : (w n : World) → n.wrote ≡ w.wrote → IsWorldFront w n
same_front w n e = record { more = []; is = e ∙ sym (append-nil w.wrote) }

pub front_on : (u w n : World) → IsWorldFront u w → IsWorldFront w n → IsWorldFront u n
front_on u w n a b = record { more = a.more ++ b.more; is = b.is ∙ ap (λ (xs : List ℕ). xs ++ b.more) a.is ∙ append_assoc u.wrote a.more b.more }

pub front_of : (w n : World) → Changes w n → IsWorldFront w n
front_of w n (inl a) = record { more = a.more; is = a.is }
front_of w n (inr a) = same_front w n a.wrote

-- ---- one after the other

pub keeps_self : (w : World) → FrontKeeps w w
keeps_self w = record { wrote = refl; started = refl }

pub keeps_on : (u w n : World) → FrontKeeps u w → FrontKeeps w n → FrontKeeps u n
keeps_on u w n a b = record { wrote = b.wrote ∙ a.wrote; started = b.started ∙ a.started }

pub changes_none : (w n : World) → FrontKeeps w n → Changes w n
changes_none w n a = inl (record { more = []; is = a.wrote ∙ sym (append-nil w.wrote); started = a.started })

pub changes_first : (u w n : World) → Changes u w → FrontKeeps w n → Changes u n
changes_first u w n (inl a) b = inl (record { more = a.more; is = b.wrote ∙ a.is; started = b.started ∙ a.started })
changes_first u w n (inr a) b = inr (record { script = a.script; is = b.started ∙ a.is; wrote = b.wrote ∙ a.wrote })

pub changes_last : (u w n : World) → FrontKeeps u w → Changes w n → Changes u n
changes_last u w n a (inl b) = inl (record { more = b.more; is = b.is ∙ ap (λ (xs : List ℕ). xs ++ b.more) a.wrote; started = b.started ∙ a.started })
changes_last u w n a (inr b) = inr (record { script = b.script; is = b.is ∙ ap (λ (xs : List Bool). set xs b.script true) a.started; wrote = b.wrote ∙ a.wrote })

pub starts_on : (u w n : World) → Starts u w → FrontKeeps w n → Starts u n
starts_on u w n a b = record { script = a.script; is = b.started ∙ a.is; wrote = b.wrote ∙ a.wrote }

pub starting_then : {X Y : Type 0} (w : World) (o : Outcome X) (f : X → Run Y) → Starting w o → ((n : World) (x : X) → Quiet n (f x n)) → Starting w (and_then o f)
starting_then w (Went n x) f a g = record { starts = starts_on w n (world_of (f x n)) a.starts (g n x).kept }
starting_then w (Stopped n why) f a g = record { starts = a.starts }

pub once : {X : Type 0} (w : World) (o : Outcome X) → Quiet w o → Once w o
once w o a = record { one = changes_none w (world_of o) a.kept }

pub then_quiet : {X Y : Type 0} (w : World) (o : Outcome X) (f : X → Run Y) → Quiet w o → ((n : World) (x : X) → Quiet n (f x n)) → Quiet w (and_then o f)
then_quiet w (Went n x) f a g = record { kept = keeps_on w n (world_of (f x n)) a.kept (g n x).kept }
then_quiet w (Stopped n why) f a g = record { kept = a.kept }

pub then_once : {X Y : Type 0} (w : World) (o : Outcome X) (f : X → Run Y) → Quiet w o → ((n : World) (x : X) → Once n (f x n)) → Once w (and_then o f)
then_once w (Went n x) f a g = record { one = changes_last w n (world_of (f x n)) a.kept (g n x).one }
then_once w (Stopped n why) f a g = record { one = changes_none w n a.kept }

pub once_then : {X Y : Type 0} (w : World) (o : Outcome X) (f : X → Run Y) → Once w o → ((n : World) (x : X) → Quiet n (f x n)) → Once w (and_then o f)
once_then w (Went n x) f a g = record { one = changes_first w n (world_of (f x n)) a.one (g n x).kept }
once_then w (Stopped n why) f a g = record { one = a.one }

pub done_quiet : {X : Type 0} (w : World) (x : X) → Quiet w (Went w x)
done_quiet w x = record { kept = keeps_self w }

pub stop_quiet : {X : Type 0} (w : World) (why : Stop) → Quiet {X = X} w (Stopped w why)
stop_quiet w why = record { kept = keeps_self w }

pub some_quiet : {X : Type 0} (w : World) (o : Option X) → Quiet w (some o w)
some_quiet w None = record { kept = keeps_self w }
some_quiet w (Some x) = done_quiet w x

pub must_quiet : (w : World) (b : Bool) → Quiet w (must b w)
must_quiet w true = done_quiet w tt
must_quiet w false = record { kept = keeps_self w }

pub if_quiet : {X : Type 0} (w : World) (b : Bool) (m k : Run X) → Quiet w (m w) → Quiet w (k w) → Quiet w ((if b then m else k) w)
if_quiet w true m k f g = f
if_quiet w false m k f g = g

pub each_quiet : {X Y : Type 0} (f : X → Run Y) → ((w : World) (x : X) → Quiet w (f x w)) → (w : World) (xs : List X) → Quiet w (each_of f xs w)
each_quiet f g w [] = done_quiet w []
each_quiet f g w (x ∷ xs) = then_quiet w _ _ (g w x) (λ n y. then_quiet n _ _ (each_quiet f g n xs) (λ m ys. done_quiet m (y ∷ ys)))

-- ---- room, and changes of the heap

pub room_quiet : (w : World) (which : Limit) (used need limit : ℕ) → Quiet w (room which used need limit w)
room_quiet w which used need limit = if_quiet w (nat_le (used + need) limit) (pure tt) (stop (Fills which)) (done_quiet w tt) (stop_quiet w (Fills which))

pub objects_quiet : (w : World) (need : ℕ) → Quiet w (room_for_objects need w)
objects_quiet w need = room_quiet w Objects (length w.heap.objects) need w.heap.limits.objects

pub cells_quiet : (w : World) (need : ℕ) → Quiet w (room_for_cells need w)
cells_quiet w need = room_quiet w Cells (cells_used w.heap) need w.heap.limits.cells

pub heap_quiet : {X : Type 0} (w : World) (h : Heap) (x : X) → Quiet w (Went (record w { heap = h }) x)
heap_quiet w h x = record { kept = record { wrote = refl; started = refl } }

-- ---- operations

pub outcome_quiet : {X : Type 0} (w n : World) (r : Result X OpEnd) → FrontKeeps w n → Quiet w (outcome n r)
outcome_quiet w n (Ok x) k = record { kept = k }
outcome_quiet w n (Err end) k = record { kept = k }

pub operates_quiet : {X : Type 0} (f : Heap → Left X) (w : World) → Quiet w (operates f w)
operates_quiet f w = outcome_quiet w (with_heap (λ h. (f h).heap) w) (f w.heap).answer (record { wrote = refl; started = refl })
