-- What hangs at the nodes of a tree. At each node it is a chain of links.
use Rattle.std.specs.Prelude.{◌≡◌, ℕ, zero, suc, ◌<◌, ◌≤◌, ◌^◌, List, Option, Some, None, length, slice_get}
use Rattle.std.specs.List.Sorted.{IsNonDecreasing}
use Rattle.abc_base_trees.specs.declared.hang.Hang.{Hang}

-- what a link leads to: one more than its place, or 0
abbrev pub at_link : {X : Type 0} → List X → ℕ → Option X
at_link xs zero = None
at_link xs (suc n) = slice_get xs n

abbrev pub link_in : Option ℕ → ℕ
link_in None = 0
link_in (Some link) = link

-- the first link of a node
abbrev pub first_link : List ℕ → ℕ → ℕ
first_link firsts node = link_in (slice_get firsts node)

-- a number hangs at a link or at one after it
pub data Hangs (hangs : List Hang) (k : ℕ) : ℕ → Type 0 where
  Here : (link : ℕ) (h : Hang) → at_link hangs link ≡ Some h → h.number ≡ k → Hangs hangs k link
  Further : (link : ℕ) (h : Hang) → at_link hangs link ≡ Some h → Hangs hangs k h.next → Hangs hangs k link

-- links lead to what is there, and onward to what was there before
pub record AreLinksWhole (bounds firsts : List ℕ) (hangs : List Hang) : Type 0 where
  pub sorted : IsNonDecreasing bounds
  pub few : length bounds < 2 ^ 30
  pub back : (i : ℕ) (h : Hang) → slice_get hangs i ≡ Some h → h.next ≤ i
  pub inside : (node : ℕ) → first_link firsts node ≤ length hangs
  pub root : first_link firsts 0 ≡ 0
