-- Steps up the tree of layouts.
use Rattle.std.specs.Prelude.{ℕ, ◌<◌, ◌↔◌}
use Rattle.abc_link_names.specs.Linked.{LinkedFile}
use Rattle.abc_link_names.specs.Tree.{IsBelow}

-- a step up from a layout, which leads no higher than another that it stands under
pub record ClimbsTo (l : LinkedFile) (at other next : ℕ) : Type 0 where
  pub less : next < at
  pub keeps : IsBelow l at other ↔ IsBelow l next other

-- a step up from a layout, which leads no higher than what is above another too
pub record NearsTo (l : LinkedFile) (at other next : ℕ) : Type 0 where
  pub less : next < at
  pub above : IsBelow l at next
  pub keeps : (n : ℕ) → IsBelow l at n → IsBelow l other n → IsBelow l next n
