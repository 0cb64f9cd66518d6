-- What the names of a pool stand for, as a table.
use Rattle.std.specs.Prelude.{◌≡◌, ℕ, ◌<◌, List, Some, None, length, get_or}
use Rattle.std.specs.declared.option.Option.{Option}
use Rattle.abc_file_types.specs.declared.tables.Abc.{Abc}
use Rattle.abc_link_names.specs.declared.meanings.Known.{Known}
use Rattle.abc_link_names.specs.declared.named.Named.{Named}
use Rattle.abc_link_names.specs.Meaning.{resolve}

-- each name, whatever its index, stands for what its entry says, and one past the end for nothing
pub record AreMeanings (v : Abc) (t : List (Option Named)) : Type 0 where
  pub means : (n : ℕ) → get_or t n None ≡ resolve v n

-- the same of the first names
pub record MeansBelow (v : Abc) (t : List (Option Named)) (i : ℕ) : Type 0 where
  pub len : length t ≡ i
  pub means : (n : ℕ) → n < i → get_or t n None ≡ resolve v n

-- what is known of some names is what they stand for
pub record AreKnown (v : Abc) (t : List (Option Known)) : Type 0 where
  pub known : (n : ℕ) (k : Known) → get_or t n None ≡ Some k → k.named ≡ resolve v n
