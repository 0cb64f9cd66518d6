-- The nodes that the definitions and bodies name have classes, where no name that is visited reaches itself.
use Rattle.std.proofs.Common.{◌≡◌, ℕ, ◌<◌, List, [], ◌∷◌, All, length, get_or, Option, inl, inr, refl}
use Rattle.abc_file_types.specs.declared.tables.Abc.{Abc}
use Rattle.abc_base_trees.specs.Classes.{AllClassed, HasClass}
use Rattle.abc_base_trees.specs.Orders.{StandsIn, IsBehindAll, IsVisitOrder, NoneReturns}
use Rattle.abc_base_trees.proofs.Walked.{in_at, reached_within}
use Rattle.abc_tidy_entries.specs.declared.error.TidyRule.TheVariants as rules
use Rattle.abc_tidy_entries.specs.Entries.{graph_of}
use Rattle.abc_tidy_entries.specs.Rules.{HoldsTidyRule}
use Rattle.abc_tidy_entries.specs.Visited.{roots_of}
use Rattle.abc_tidy_entries.proofs.NodeGraph.{is_graph, never_returns, roots_within}

pub all_have : (classes : List (Option ℕ)) (xs : List ℕ) → ((y : ℕ) → StandsIn y xs → HasClass classes y) → AllClassed classes xs
all_have classes [] h = tt
all_have classes (x ∷ xs) h = (h x (inl refl), all_have classes xs (λ y k. h y (inr k)))

pub roots_classed : (v : Abc) (graph : List (List ℕ)) (roots order : List ℕ) (classes : List (Option ℕ)) → graph ≡ graph_of v → roots ≡ roots_of v → HoldsTidyRule v rules.NameCycle → (NoneReturns graph roots → IsVisitOrder graph roots order) → (IsBehindAll graph [] order → All (λ y. y < length graph) order → (y : ℕ) → StandsIn y order → HasClass classes y) → AllClassed classes roots
roots_classed v graph roots order classes e f holds is all =
    let o = is (never_returns v graph roots e f holds) in
    all_have classes roots (λ y h. all o.behind (λ k d lt. reached_within graph roots (get_or order k d) (is_graph v graph e) (roots_within v graph roots e f) (o.reached (get_or order k d) (in_at order k d lt))) y (o.rooted y h))
