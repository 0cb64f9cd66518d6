-- The own traits of layouts by the texts of their names.
use Rattle.std.specs.Prelude.{ℕ, List, map}
use Rattle.std.specs.declared.option.Option.{Option}
use Rattle.std.specs.Str.{bytes_eq}
use Rattle.abc_base_graphs.specs.Groups.{places_of, some_places}
use Rattle.abc_link_names.specs.Pool.{name, qname, text}
use Rattle.abc_link_names.specs.declared.named.DefiniteName.{DefiniteName}
use Rattle.abc_file_types.specs.declared.tables.Abc.{Abc}
use Rattle.abc_file_types.specs.declared.traits.TraitInfo.{TraitInfo}
use Rattle.abc_link_names.specs.Linked.{LinkedFile}
use Rattle.abc_link_names.specs.Numbering.{part_at}
use Rattle.abc_link_names.specs.Slots.{traits_of}

-- the namespace and the text of a trait's name
abbrev pub trait_name : Abc → TraitInfo → DefiniteName
trait_name v t = qname (name v t.name)

abbrev pub trait_texts : Abc → List TraitInfo → List (List ℕ)
trait_texts v ts = map (λ t. text v (trait_name v t).string) ts

-- the own table of traits of the layout x
abbrev pub own_table_of : LinkedFile → ℕ → List TraitInfo
own_table_of l x = traits_of l.file (part_at l.parts x)

-- the places of the own traits that have a text, in file order, or none where there is none
abbrev pub own_traits : LinkedFile → ℕ → List ℕ → Option (List ℕ)
own_traits l x t = some_places (places_of (bytes_eq t) (trait_texts l.file (own_table_of l x)))
