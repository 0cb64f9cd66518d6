-- Where a search ends.
use Rattle.std.specs.Prelude.{◌≡◌, ℕ, ◌+◌, List, length, Some, slice_get}
use Rattle.abc_heap_values.specs.Filling.{Filling}
use Rattle.abc_heap_values.specs.declared.cell.Cell.{Cell}
use Rattle.abc_heap_values.specs.declared.cell.Held.{Held}
use Rattle.abc_heap_values.specs.declared.values.Span.{Span}
use Rattle.abc_heap_values.specs.declared.values.Value.{Value}
use Rattle.abc_heap_values.specs.Lanes.{lane_of, property_in}
use Rattle.abc_heap_values.specs.declared.cell.Lane.TheVariants.{Slots, Properties}
use Rattle.abc_heap_values.specs.Links.{links, held_at, IsCellAt, IsChain}
use Rattle.abc_heap_values.specs.declared.chain.Chain.{Chain}
use Rattle.abc_heap_store.specs.declared.heads.Head.{Head}
use Rattle.abc_heap_store.specs.declared.search.Spot.{Spot}
use Rattle.abc_heap_store.specs.Heap.{properties_of}
use Rattle.abc_heap_store.specs.Properties.{place_named, with_value}
use Rattle.abc_heap_store.specs.Gaps.{AreGaps}
use Rattle.abc_heap_store.specs.Buckets.{KeepsIndex}
use Rattle.abc_heap_store.specs.View.{objects, AreObjectHeads}

-- the spot is that of object o's property of text t: the place of its cell, and its position among o's properties
pub record IsSpot (f : Span → List ℕ) (t : List ℕ) (cells : List Cell) (heads : List Head) (o : ℕ) (s : Spot) : Type 0 where
  pub at : IsCellAt (links cells) s.place o Properties s.position
  pub is : place_named f t (properties_of (objects cells 0 heads) o) ≡ Some s.position

-- one cell more, and no head more
pub record IsGrown (hs : Filling Head) (hs' : Filling Head) (cs : Filling Cell) (cs' : Filling Cell) : Type 0 where
  pub heads : length hs'.items ≡ length hs.items
  pub heads_limit : hs'.limit ≡ hs.limit
  pub cells : length cs'.items ≡ length cs.items + 1
  pub cells_limit : cs'.limit ≡ cs.limit

-- the slots of object o so far are this chain, and are the last cells
pub record IsFilling (cells : List Cell) (hs : List Head) (o : ℕ) (c : Chain) : Type 0 where
  pub chain : IsChain (links cells) o Slots c
  pub next : (h : Head) → slice_get hs o ≡ Some h → h.slots + c.count ≡ length cells

-- a cell holds the property that was held, with another value
pub record IsRevalued (old new : Filling Cell) (place : ℕ) (held : Held) (v : Value) : Type 0 where
  pub now : Held
  pub lane : lane_of now ≡ Properties
  pub value : property_in now ≡ with_value v (property_in held)
  pub cells : new ≡ record { items = held_at old.items place now; limit = old.limit }

-- the cells stand for the same objects, and as many are used
pub record IsSame (hs : List Head) (old new : Filling Cell) : Type 0 where
  pub objects : objects new.items 0 hs ≡ objects old.items 0 hs
  pub heads : AreObjectHeads (links new.items) hs
  pub gaps : AreGaps new.items
  pub index : KeepsIndex old new
  pub cells : length new.items ≡ length old.items
  pub limit : new.limit ≡ old.limit
