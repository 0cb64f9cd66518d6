-- Names that were seen.
use Rattle.std.specs.Prelude.{◌≡◌, ◌<◌, ◌^◌, ℕ, Bool, false, true, List, ◌++◌, map, slice_get, take, Some}
use Rattle.std.specs.Borrow.{Bor}
use Rattle.abc_text_lines.specs.Operands.{number_of_digits}
use Rattle.abc_text_lines.specs.Texts.{is_text_among}
use Rattle.abc_text_tokens.specs.Names.{NameMap}

abbrev pub key_of_entry : {V : Type 0} → Bor (List ℕ) × V → List ℕ
key_of_entry entry = entry.0.now

-- the names of a map
abbrev pub names_in : {V : Type 0} → NameMap V → List (List ℕ)
names_in m = map key_of_entry m.entries

-- the texts of some names
abbrev pub texts_of_names : List (Bor (List ℕ)) → List (List ℕ)
texts_of_names names = map (λ (name : Bor (List ℕ)). name.now) names

-- the numbers of some numerals are below a bound
abbrev pub AreBelow : ℕ → List (List ℕ) → Type 0
AreBelow bound names = (name : List ℕ) → is_text_among name names ≡ true → number_of_digits name < bound

-- the same names are among both
abbrev pub Same : List (List ℕ) → List (List ℕ) → Type 0
Same xs ys = (name : List ℕ) → is_text_among name xs ≡ is_text_among name ys

-- the names that stood in a body: so many of its labels, in their order, and others
abbrev pub names_in_body : NameMap ℕ → ℕ → NameMap Bool → List (List ℕ)
names_in_body labels met others = names_in others ++ take met (names_in labels)

-- The name stands at this place among some, of which there are not too many, and not before it.
abbrev pub IsFirstAt : List (List ℕ) → ℕ → List ℕ → Type 0
IsFirstAt names place name = (slice_get names place ≡ Some name) × (is_text_among name (take place names) ≡ false) × (place < 2 ^ 63)
