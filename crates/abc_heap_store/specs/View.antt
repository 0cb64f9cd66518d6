-- The records of flat lists.
use Rattle.std.specs.Prelude.{◌≡◌, ℕ, ◌+◌, ◌<◌, ◌≤◌, ◌^◌, List, [], ◌∷◌, length, Some, slice_get}
use Rattle.abc_heap_values.specs.Filling.{Filling}
use Rattle.abc_heap_values.specs.declared.cell.Cell.{Cell}
use Rattle.abc_heap_values.specs.declared.cell.Lane.TheVariants.{Slots, Properties, Elements}
use Rattle.abc_heap_values.specs.Lanes.{slots, properties, elements}
use Rattle.abc_heap_values.specs.Links.{Link, links, count, AreLinked, IsChain, IsCellAt}
use Rattle.abc_heap_store.specs.declared.heads.Head.{Head}
use Rattle.abc_heap_store.specs.declared.records.ScopeNode.{ScopeNode}
use Rattle.abc_heap_store.specs.declared.records.Limits.{Limits}
use Rattle.abc_heap_store.specs.What.{what_in, elements_in}
use Rattle.abc_heap_store.specs.Heap.{Object}
use Rattle.abc_heap_store.specs.Buckets.{IsIndexed}
use Rattle.abc_heap_store.specs.declared.buckets.Buckets.{Buckets}

abbrev pub object_viewed : List Cell → ℕ → Head → Object
object_viewed cells o h = record { layout = h.layout; delegate = h.delegate; slots = slots o cells; properties = properties o cells; elements = elements o cells; what = what_in h.what }

-- the objects from number o on
abbrev pub objects : List Cell → ℕ → List Head → List Object
objects cells o [] = []
objects cells o (h ∷ hs) = object_viewed cells o h ∷ objects cells (o + 1) hs

pub record IsHead (xs : List Link) (o : ℕ) (h : Head) : Type 0 where
  pub slots : (k : ℕ) → k < count o Slots xs → IsCellAt xs (h.slots + k) o Slots k
  pub properties : IsChain xs o Properties h.properties
  pub elements : IsChain xs o Elements (elements_in h.what)

-- the cells are linked, each head knows the cells of its object, and each cell belongs to an object that has a head
pub record AreObjectHeads (xs : List Link) (hs : List Head) : Type 0 where
  pub linked : AreLinked xs
  pub heads : (o : ℕ) (h : Head) → slice_get hs o ≡ Some h → IsHead xs o h
  pub owners : (i : ℕ) (x : Link) → slice_get xs i ≡ Some x → x.owner < length hs

pub record HasLimits (hs : Filling Head) (cs : Filling Cell) (ss : Filling ScopeNode) (ts : Filling ℕ) (m : Limits) : Type 0 where
  pub objects : hs.limit ≡ m.objects
  pub cells : cs.limit ≡ m.cells
  pub scopes : ss.limit ≡ m.cells
  pub text : ts.limit ≡ m.text
  pub within : length cs.items + length ss.items ≤ m.cells
  pub small : m.cells < 2 ^ 32

-- the flat lists stand for a heap
pub record IsStored (hs : Filling Head) (cs : Filling Cell) (ss : Filling ScopeNode) (fixed : List ℕ) (ts : Filling ℕ) (strings : List (List ℕ)) (b : Buckets) (m : Limits) : Type 0 where
  pub heads : AreObjectHeads (links cs.items) hs.items
  pub limits : HasLimits hs cs ss ts m
  pub index : IsIndexed fixed ts.items strings cs b
