-- Whether a name clashes, by maps of first places.
use Rattle.std.specs.Prelude.{◌≡◌, ◌<◌, ℕ, List, Bool, get_or, length, map}
use Rattle.std.specs.declared.option.Option.{Option}
use Rattle.std.specs.declared.hash.FoldHasher.{FoldHasher}
use Rattle.std.specs.declared.hash.BuildHasherDefault.{BuildHasherDefault}
use Rattle.indexmap.specs.IndexMap.{get, IndexMap}
use Rattle.abc_base_graphs.specs.Index.{first}
use Rattle.abc_link_names.specs.Keys.{keys_eq}
use Rattle.abc_link_names.specs.declared.keys.NameKey.{NameKey}
use Rattle.abc_link_rules.specs.declared.same_name.SidedKey.{SidedKey}
use Rattle.abc_link_rules.specs.Repeats.{clashes_at, no_sided, sided_eq}

abbrev pub is_clash_of : List SidedKey → IndexMap NameKey ℕ (BuildHasherDefault FoldHasher) → IndexMap SidedKey ℕ (BuildHasherDefault FoldHasher) → ℕ → Bool
is_clash_of keys firsts sided i = clashes_at keys (get keys_eq firsts (get_or keys i no_sided).name) (get sided_eq sided (get_or keys i no_sided)) i

-- where the name of a key stands first, and where it does so with its side
abbrev pub first_of_name : List SidedKey → ℕ → Option ℕ
first_of_name keys i = first (keys_eq (get_or keys i no_sided).name) (map (λ k. k.name) keys)

abbrev pub first_of_both : List SidedKey → ℕ → Option ℕ
first_of_both keys i = first (sided_eq (get_or keys i no_sided)) keys

-- with what a map has for each key it clashes exactly where it does with the first place of its name and side
pub record TellsSides (keys : List SidedKey) (sided : IndexMap SidedKey ℕ (BuildHasherDefault FoldHasher)) : Type 0 where
  pub tells : (i : ℕ) → i < length keys → clashes_at keys (first_of_name keys i) (get sided_eq sided (get_or keys i no_sided)) i ≡ clashes_at keys (first_of_name keys i) (first_of_both keys i) i
