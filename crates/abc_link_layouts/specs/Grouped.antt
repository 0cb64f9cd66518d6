-- The own traits of layouts, grouped by the texts of their names.
use Rattle.std.specs.Prelude.{◌≡◌, ℕ, List, Some, length, slice_get}
use Rattle.abc_base_graphs.specs.ByText.{GroupsTexts}
use Rattle.abc_base_graphs.specs.Groups.{GroupMap}
use Rattle.abc_base_graphs.specs.declared.texts.Texts.{Texts}
use Rattle.abc_link_layouts.specs.Strings.{trait_strings}
use Rattle.abc_link_names.specs.Linked.{LinkedFile}
use Rattle.abc_link_names.specs.Traits.{own_table_of}

-- those of the first n layouts
pub record HasGroups (l : LinkedFile) (t : Texts) (groups : List GroupMap) (n : ℕ) : Type 0 where
  pub len : length groups ≡ n
  pub grouped : (x : ℕ) (g : GroupMap) → slice_get groups x ≡ Some g → GroupsTexts t l.file.strings g (trait_strings l.file (own_table_of l x))
