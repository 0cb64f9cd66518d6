-- The spots of namespaces: that of one which the name of a class has is the first class whose name has an equal one.
use Rattle.std.specs.Prelude.{◌≡◌, ℕ, ◌<◌, List, Some, None, map, length, get_or, unwrap_or}
use Rattle.std.specs.declared.option.Option.{Option}
use Rattle.abc_base_graphs.specs.Index.{Map, first}
use Rattle.abc_link_names.specs.Keys.{keys_eq, name_key}
use Rattle.abc_link_names.specs.Meaning.{class_name_of}
use Rattle.abc_link_names.specs.declared.keys.NameKey.{NameKey}
use Rattle.abc_link_names.specs.declared.named.DefiniteName.{DefiniteName}
use Rattle.abc_file_types.specs.declared.tables.Abc.{Abc}
use Rattle.abc_link_known.specs.declared.spots.Spots.{Spots}
use Rattle.indexmap.specs.IndexMap.{get}

-- a namespace is found as a name without a text
abbrev pub key_of_space : Abc → List ℕ → ℕ → NameKey
key_of_space v numbers a = name_key v numbers (record { ns = a; string = 0 })

-- no namespace has this key, since no kind has the code 0
abbrev pub no_spot_key : NameKey
no_spot_key = record { text = 0; code = 0; name = 0; place = 0 }

abbrev pub key_of_class : Abc → List ℕ → Option DefiniteName → NameKey
key_of_class v numbers None = no_spot_key
key_of_class v numbers (Some d) = key_of_space v numbers d.ns

abbrev pub keys_of_classes : Abc → List ℕ → List NameKey
keys_of_classes v numbers = map (λ i. key_of_class v numbers (class_name_of v i)) v.instances

-- the first class whose name has a namespace equal to this one, if there is such a class
abbrev pub spot_of_space : Abc → List ℕ → ℕ → Option ℕ
spot_of_space v numbers a = first (keys_eq (key_of_space v numbers a)) (keys_of_classes v numbers)

-- where each of some keys is found first: at itself at the latest
abbrev pub firsts_of : List NameKey → List ℕ
firsts_of keys = map (λ k. unwrap_or (first (keys_eq k) keys) 0) keys

-- the first class whose name has a namespace equal to that of the class c
abbrev pub spot_of_class : Abc → List ℕ → ℕ → ℕ
spot_of_class v numbers c = get_or (firsts_of (keys_of_classes v numbers)) c 0

-- what is found under the keys of the first namespaces
pub record HasSpots (v : Abc) (numbers : List ℕ) (found : Map NameKey) (t : List (Option ℕ)) (n : ℕ) : Type 0 where
  pub len : length t ≡ n
  pub spots : (a : ℕ) → a < n → get_or t a None ≡ get keys_eq found (key_of_space v numbers a)

-- The table finds the spot of each namespace by its key, and has the spots of all classes and of the first namespaces.
pub record AreSpots (v : Abc) (numbers : List ℕ) (s : Spots) : Type 0 where
  pub found : (k : NameKey) → get keys_eq s.found k ≡ first (keys_eq k) (keys_of_classes v numbers)
  pub classes : s.classes ≡ firsts_of (keys_of_classes v numbers)
  pub spaces : HasSpots v numbers s.found s.spaces (length s.spaces)
