-- The places of a text in a list of texts of a pool.
use Rattle.std.specs.Prelude.{ℕ, List, [], map, get_or}
use Rattle.abc_base_graphs.specs.Groups.{GroupMap, Groups}
use Rattle.abc_base_graphs.specs.Texts.{HasTexts, number_among, texts_of}
use Rattle.abc_base_graphs.specs.declared.texts.Texts.{Texts}

-- the texts of some strings of a pool
abbrev pub names_of : List (List ℕ) → List ℕ → List (List ℕ)
names_of strings names = map (λ i. get_or (texts_of strings) i []) names

-- the groups are those of the numbers of the texts of some strings
pub record GroupsTexts (t : Texts) (strings : List (List ℕ)) (groups : GroupMap) (names : List ℕ) : Type 0 where
  pub texts : HasTexts t (texts_of strings)
  pub grouped : Groups groups (map (number_among (texts_of strings)) (names_of strings names))
