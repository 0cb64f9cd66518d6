-- For the prover alone: a graph with the edges of its marked nodes alone.
use Rattle.std.specs.Prelude.{◌≡◌, ℕ, ◌<◌, List, [], Bool, false, get_or, length, if◌then◌else◌}
use Rattle.abc_base_graphs.specs.Graph.{leads_to}

abbrev pub row_kept : List Bool → List (List ℕ) → ℕ → List ℕ
row_kept marks graph x = if get_or marks x false then leads_to graph x else []

pub record AreRowsKept (marks : List Bool) (graph rows : List (List ℕ)) : Type 0 where
  pub len : length rows ≡ length graph
  pub rows_are : (x : ℕ) → leads_to rows x ≡ row_kept marks graph x

-- the first n rows
pub record AreKeptBelow (marks : List Bool) (graph rows : List (List ℕ)) (n : ℕ) : Type 0 where
  pub len : length rows ≡ n
  pub rows_are : (x : ℕ) → x < n → leads_to rows x ≡ row_kept marks graph x
