-- Texts by their numbers (a tool of other definitions).
use Rattle.std.specs.Prelude.{◌≡◌, ℕ, List, [], ◌∷◌, cond, Some, unwrap_or, map, get_or, nat_eq}
use Rattle.std.specs.declared.option.Option.{Option}
use Rattle.std.specs.declared.hash.FoldHasher.{FoldHasher}
use Rattle.std.specs.declared.hash.BuildHasherDefault.{BuildHasherDefault}
use Rattle.std.specs.declared.vec.Vec.{Vec}
use Rattle.std.specs.declared.alloc.Global.{Global}
use Rattle.std.specs.Str.{bytes_eq}
use Rattle.indexmap.specs.IndexMap.{get_by, IndexMap}
use Rattle.abc_base_graphs.specs.Index.{first}
use Rattle.abc_base_graphs.specs.declared.texts.Texts.{Texts}

abbrev pub Map : Type 0
Map = IndexMap (Vec ℕ Global) ℕ (BuildHasherDefault FoldHasher)

-- the number that a map has for a text
abbrev pub number_in_map : Map → List ℕ → Option ℕ
number_in_map map text = get_by (λ k. bytes_eq text k.items) map

-- the number of a text, if it has one
abbrev pub number_in : Texts → List ℕ → Option ℕ
number_in t text = number_in_map t.numbers text

-- the text has the number, and the others keep theirs
pub record Notes (old new : Map) (text : List ℕ) (n : ℕ) : Type 0 where
  pub notes : (t : List ℕ) → number_in_map new t ≡ cond (bytes_eq t text) (Some n) (number_in_map old t)

-- each text has the first place where it stands in the list, and no other text has a number
pub record HasTexts (t : Texts) (texts : List (List ℕ)) : Type 0 where
  pub has : (text : List ℕ) → number_in t text ≡ first (bytes_eq text) texts

-- the number of a text among some texts
abbrev pub number_among : List (List ℕ) → List ℕ → ℕ
number_among texts t = unwrap_or (first (bytes_eq t) texts) 0

-- the texts of a pool: the empty text, and then the strings
abbrev pub texts_of : List (List ℕ) → List (List ℕ)
texts_of strings = [] ∷ strings

-- the numbers of the texts of a pool: of the empty text, and then of the strings
abbrev pub numbers_in : Texts → List (List ℕ) → List ℕ
numbers_in t strings = 0 ∷ map (λ s. unwrap_or (number_in t s) 0) strings

-- two texts of the pool have equal numbers exactly where they are equal; an index past the end stands for the empty text
pub record AreNumbersOf (numbers : List ℕ) (strings : List (List ℕ)) : Type 0 where
  pub same : (i j : ℕ) → nat_eq (get_or numbers i 0) (get_or numbers j 0) ≡ bytes_eq (get_or (texts_of strings) i []) (get_or (texts_of strings) j [])
