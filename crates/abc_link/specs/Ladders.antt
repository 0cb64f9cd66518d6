-- A layout far above each.
use Rattle.std.specs.Prelude.{◌≡◌, ℕ, List, Some, slice_get}
use Rattle.abc_link_names.specs.Linked.{LinkedFile}
use Rattle.abc_link_names.specs.Tree.{IsBelow}
use Rattle.abc_link.specs.declared.ladder.Rung.{Rung}

abbrev pub AreRungs : LinkedFile → List Rung → Type 0
AreRungs l rungs = (i : ℕ) (r : Rung) → slice_get rungs i ≡ Some r → IsBelow l i r.far
