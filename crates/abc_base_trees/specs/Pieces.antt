-- Places are parted by the bounds of ranges.
use Rattle.std.specs.Prelude.{◌≡◌, ℕ, suc, List, [], ◌∷◌, Some, cond, leb, slice_get}
use Rattle.std.specs.List.{Contains}
use Rattle.abc_base_trees.specs.declared.hang.Range.{Range}

-- how many bounds are at most a place
abbrev pub piece : List ℕ → ℕ → ℕ
piece [] x = 0
piece (b ∷ bs) x = cond (leb b x) (suc (piece bs x)) (piece bs x)

-- all ranges begin and end at bounds
pub record AreBounds (ranges : List Range) (bounds : List ℕ) : Type 0 where
  pub from : (k : ℕ) (r : Range) → slice_get ranges k ≡ Some r → Contains bounds r.from
  pub to : (k : ℕ) (r : Range) → slice_get ranges k ≡ Some r → Contains bounds r.to
