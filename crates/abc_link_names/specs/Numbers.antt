-- Texts as numbers: two strings have equal numbers exactly where they have equal texts. An index past the end of the pool
-- stands for the empty text, so no index is out of range.
use Rattle.std.specs.Prelude.{◌≡◌, ℕ, List, Some, None, map, get_or, nat_eq}
use Rattle.std.specs.declared.option.Option.{Option}
use Rattle.std.specs.Str.{bytes_eq}
use Rattle.abc_base_graphs.specs.Groups.{Groups, places_of}
use Rattle.abc_base_graphs.specs.Texts.{HasTexts, numbers_in, texts_of}
use Rattle.abc_file_types.specs.declared.tables.Abc.{Abc}
use Rattle.abc_link_names.specs.declared.named.DefiniteName.{DefiniteName}
use Rattle.abc_link_names.specs.declared.tables.NameTables.{NameTables}
use Rattle.abc_link_names.specs.Pool.{text}
use Rattle.abc_link_names.specs.Meaning.{class_name_of}

-- the number of the text of a string, by the string's index
abbrev pub number_of_text : List ℕ → ℕ → ℕ
number_of_text numbers i = get_or numbers i 0

-- the number of the text of a class's name
abbrev pub key_of_name : List ℕ → Option DefiniteName → ℕ
key_of_name numbers None = 0
key_of_name numbers (Some d) = number_of_text numbers d.string

abbrev pub class_keys : Abc → List ℕ → List ℕ
class_keys v numbers = map (λ i. key_of_name numbers (class_name_of v i)) v.instances

-- the classes whose names have the text of a number, in order
abbrev pub classes_of : Abc → List ℕ → ℕ → List ℕ
classes_of v numbers t = places_of (nat_eq t) (class_keys v numbers)

-- the numbers are those of the file's texts, and the groups those of its classes by their names
pub record AreNames (v : Abc) (t : NameTables) : Type 0 where
  pub texts : HasTexts t.texts (texts_of v.strings)
  pub each : t.numbers ≡ numbers_in t.texts v.strings
  pub same : (i j : ℕ) → nat_eq (number_of_text t.numbers i) (number_of_text t.numbers j) ≡ bytes_eq (text v i) (text v j)
  pub groups : Groups t.classes (class_keys v t.numbers)
