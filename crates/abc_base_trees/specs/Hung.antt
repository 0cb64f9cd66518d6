-- Ranges in a tree.
use Rattle.std.specs.Prelude.{◌≡◌, ℕ, zero, suc, ◌+◌, ◌/◌, ◌<◌, ◌≤◌, List, Some, length, slice_get}
use Rattle.abc_base_trees.specs.Pieces.{piece}
use Rattle.abc_base_trees.specs.Hanging.{Hangs, first_link}
use Rattle.abc_base_trees.specs.declared.hang.Range.{Range}
use Rattle.abc_base_trees.specs.declared.stabs.Stabs.{Stabs}

-- how many leaves there are
abbrev pub leaves : Stabs → ℕ
leaves t = suc (length t.bounds.items)

-- the lowest node above a place
abbrev pub leaf : Stabs → ℕ → ℕ
leaf t x = piece t.bounds.items x + leaves t

-- the node so many levels above one
abbrev pub levels_above : ℕ → ℕ → ℕ
levels_above zero node = node
levels_above (suc j) node = levels_above j node / 2

abbrev pub HangsAt : Stabs → ℕ → ℕ → Type 0
HangsAt t node k = Hangs t.hangs k (first_link t.firsts node)

abbrev pub Covers : List Range → ℕ → ℕ → Type 0
Covers ranges k x = (r : Range) × (slice_get ranges k ≡ Some r) × (r.from ≤ x) × (x < r.to)

-- the ranges that cover a place hang above it, and no others
pub record AreHung (ranges : List Range) (t : Stabs) : Type 0 where
  pub every : (k x : ℕ) → Covers ranges k x → (j : ℕ) × HangsAt t (levels_above j (leaf t x)) k
  pub only : (j k x : ℕ) → HangsAt t (levels_above j (leaf t x)) k → Covers ranges k x

-- none covers a place
abbrev pub IsStabFree : Stabs → ℕ → Type 0
IsStabFree t x = (j k : ℕ) → HangsAt t (levels_above j (leaf t x)) k → ⊥

-- some range covers the place x
abbrev pub IsStabTaken : Stabs → ℕ → Type 0
IsStabTaken t x = (j : ℕ) × ((k : ℕ) × HangsAt t (levels_above j (leaf t x)) k)
