-- For the prover alone: how much a walk over a graph still has to do, at most.
use Rattle.std.specs.Prelude.{ℕ, ◌+◌, List, [], ◌∷◌, Bool, true, false, length}

-- the nodes without a mark: two for each, and one for each node that it leads to
abbrev pub effort_unmarked : List (List ℕ) → List Bool → ℕ
effort_unmarked [] marks = 0
effort_unmarked (xs ∷ graph) [] = 0
effort_unmarked (xs ∷ graph) (true ∷ marks) = effort_unmarked graph marks
effort_unmarked (xs ∷ graph) (false ∷ marks) = 2 + length xs + effort_unmarked graph marks
