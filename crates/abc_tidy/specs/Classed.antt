-- For the prover alone: the entries of a file, and classes of those that the definitions and bodies name.
use Rattle.std.specs.Prelude.{◌≡◌, ℕ, List}
use Rattle.std.specs.declared.option.Option.{Option}
use Rattle.abc_file_types.specs.declared.tables.Abc.{Abc}
use Rattle.abc_base_trees.specs.declared.heads.Head.{Head}
use Rattle.abc_base_trees.specs.declared.keys.Key.{Key}
use Rattle.abc_base_trees.specs.Alike.{AreAlike}
use Rattle.abc_base_trees.specs.Classes.{AllClassed, AreTreeClasses, AreDistinct}
use Rattle.abc_tidy_entries.specs.declared.error.TidyRule.TheVariants as rules
use Rattle.abc_tidy_entries.specs.Entries.{graph_of, heads_of}
use Rattle.abc_tidy_entries.specs.Once.{once}
use Rattle.abc_tidy_entries.specs.Rules.{HoldsTidyRule}
use Rattle.abc_tidy_entries.specs.Visited.{roots_of}

pub record AreClassed (v : Abc) (heads : List Head) (graph : List (List ℕ)) (roots : List ℕ) (keys : List Key) (classes : List (Option ℕ)) : Type 0 where
  pub alike : AreAlike classes heads (heads_of v)
  pub graph_is : graph ≡ graph_of v
  pub roots_are : roots ≡ once (roots_of v)
  pub valid : AreTreeClasses heads graph keys classes
  pub distinct : AreDistinct keys
  pub names : HoldsTidyRule v rules.NameCycle
  pub classed : AllClassed classes (roots_of v)
