-- The namespaces of sets, under the sets.
use Rattle.std.specs.Prelude.{◌≡◌, ℕ, ◌+◌, List, [], ◌∷◌, ◌++◌, Bool, ◌&&◌, map, nat_eq}
use Rattle.std.specs.List.{list_any}
use Rattle.abc_base_graphs.specs.Index.{first}
use Rattle.abc_link_names.specs.Keys.{keys_eq, name_key}
use Rattle.abc_link_names.specs.Pool.{is_public}
use Rattle.abc_link.specs.declared.sets.SetKey.{SetKey}
use Rattle.abc_link.specs.declared.sets.SetSpaces.{SetSpaces}
use Rattle.abc_file_types.specs.declared.tables.Abc.{Abc}
use Rattle.indexmap.specs.IndexMap.{get}

-- a namespace is found as a name without a text
abbrev pub set_key : Abc → List ℕ → ℕ → ℕ → SetKey
set_key v numbers set space = record { set = set; space = name_key v numbers (record { ns = space; string = 0 }) }

abbrev pub set_keys_eq : SetKey → SetKey → Bool
set_keys_eq a b = nat_eq a.set b.set && keys_eq a.space b.space

abbrev pub keys_from : Abc → List ℕ → ℕ → List (List ℕ) → List SetKey
keys_from v numbers n [] = []
keys_from v numbers n (s ∷ ss) = map (set_key v numbers n) s ++ keys_from v numbers (n + 1) ss

-- sets count from 1
abbrev pub set_keys : Abc → List ℕ → List SetKey
set_keys v numbers = keys_from v numbers 1 v.sets

abbrev pub are_public : Abc → List Bool
are_public v = map (list_any (is_public v)) v.sets

-- The table finds the namespaces of each set by their keys, and has for each set whether the public namespace is in it.
pub record HasSetKeys (v : Abc) (numbers : List ℕ) (s : SetSpaces) : Type 0 where
  pub places : (k : SetKey) → get set_keys_eq s.places k ≡ first (set_keys_eq k) (set_keys v numbers)
  pub publics : s.publics ≡ are_public v
