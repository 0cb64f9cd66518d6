-- The traits of all scripts, one after the other.
use Rattle.std.specs.Prelude.{◌≡◌, ℕ, ◌+◌, List, [], ◌∷◌, ◌++◌, get_or, map}
use Rattle.std.specs.declared.option.Option.{Option}
use Rattle.std.specs.Str.{bytes_eq}
use Rattle.abc_base_graphs.specs.ByText.{GroupsTexts}
use Rattle.abc_base_graphs.specs.Groups.{places_of, some_places}
use Rattle.abc_base_graphs.specs.declared.texts.Texts.{Texts}
use Rattle.abc_link_layouts.specs.Strings.{trait_strings}
use Rattle.abc_link_names.specs.Traits.{trait_name, trait_texts}
use Rattle.abc_link.specs.declared.scripts.ScriptTraits.{ScriptTraits}
use Rattle.abc_file_types.specs.declared.classes.Script.{Script}
use Rattle.abc_file_types.specs.declared.tables.Abc.{Abc}
use Rattle.abc_file_types.specs.declared.traits.TraitInfo.{TraitInfo}

abbrev pub traits_of_scripts : List Script → List TraitInfo
traits_of_scripts [] = []
traits_of_scripts (s ∷ ss) = s.traits ++ traits_of_scripts ss

-- for each of the traits the script that has it
abbrev pub owners_from : ℕ → List Script → List ℕ
owners_from n [] = []
owners_from n (s ∷ ss) = map (λ (t : TraitInfo). n) s.traits ++ owners_from (n + 1) ss

-- for each trait of all scripts the index of the script that has it
abbrev pub owners_of : Abc → List ℕ
owners_of v = owners_from 0 v.scripts

-- the places of those that have a text, or none where there is none
abbrev pub script_traits : Abc → List ℕ → Option (List ℕ)
script_traits v text = some_places (places_of (bytes_eq text) (trait_texts v (traits_of_scripts v.scripts)))

-- the numbers of the texts of some traits
abbrev pub keys_of : Abc → List ℕ → List TraitInfo → List ℕ
keys_of v numbers ts = map (λ (t : TraitInfo). get_or numbers (trait_name v t).string 0) ts

-- The table has for each trait of all scripts its script, and for the number of each text the places of the traits of that name.
pub record HasScripts (v : Abc) (t : Texts) (s : ScriptTraits) : Type 0 where
  pub owners : s.owners ≡ owners_of v
  pub grouped : GroupsTexts t v.strings s.groups (trait_strings v (traits_of_scripts v.scripts))
