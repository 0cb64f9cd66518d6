-- What hangs in a tree beside what hung there before.
use Rattle.std.specs.Prelude.{◌≡◌, ℕ, ◌*◌, ◌<◌, ◌≤◌, Bool, true, List, length, ◌⊎◌}
use Rattle.abc_base_trees.specs.Pieces.{AreBounds}
use Rattle.abc_base_trees.specs.Hung.{Covers, HangsAt, leaf, leaves, levels_above}
use Rattle.abc_base_trees.specs.declared.hang.Range.{Range}
use Rattle.abc_base_trees.specs.declared.stabs.Stabs.{Stabs}

-- one number at one node, if that is so
pub record AddsAtNode (so : Bool) (node number : ℕ) (t u : Stabs) : Type 0 where
  pub bounds : u.bounds.items ≡ t.bounds.items
  pub long : length u.firsts ≡ length t.firsts
  pub keeps : (n k : ℕ) → HangsAt t n k → HangsAt u n k
  pub gets : so ≡ true → HangsAt u node number
  pub only : (n k : ℕ) → HangsAt u n k → HangsAt t n k ⊎ ((so ≡ true) × (n ≡ node) × (k ≡ number))

-- one number above some leaves
pub record Spans (number from to : ℕ) (t u : Stabs) : Type 0 where
  pub bounds : u.bounds.items ≡ t.bounds.items
  pub long : length u.firsts ≡ length t.firsts
  pub keeps : (n k : ℕ) → HangsAt t n k → HangsAt u n k
  pub gets : (x : ℕ) → from ≤ x → x < to → (j : ℕ) × HangsAt u (levels_above j x) number
  pub only : (j k x : ℕ) → leaves t ≤ x → x < 2 * leaves t → HangsAt u (levels_above j x) k → HangsAt t (levels_above j x) k ⊎ ((k ≡ number) × (from ≤ x) × (x < to))

-- the ranges from a number on hang, and no others
pub record HangFrom (ranges : List Range) (first : ℕ) (t : Stabs) : Type 0 where
  pub bounds : AreBounds ranges t.bounds.items
  pub long : length t.firsts ≡ 2 * leaves t
  pub every : (k x : ℕ) → first ≤ k → Covers ranges k x → (j : ℕ) × HangsAt t (levels_above j (leaf t x)) k
  pub only : (j k x : ℕ) → HangsAt t (levels_above j (leaf t x)) k → Covers ranges k x
