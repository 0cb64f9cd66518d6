-- All tables of a file.
use Rattle.std.specs.Prelude.{ℕ, List}
use Rattle.abc_base_graphs.specs.declared.texts.Texts.{Texts}
use Rattle.abc_link_names.specs.declared.part.Part.{Part}
use Rattle.abc_link.specs.OwnSlots.{HasOwnSlots}
use Rattle.abc_link.specs.ScriptTraits.{HasScripts}
use Rattle.abc_link.specs.SetKeys.{HasSetKeys}
use Rattle.abc_link.specs.declared.tables.SearchTables.{SearchTables}
use Rattle.abc_file_types.specs.declared.tables.Abc.{Abc}

-- The tables are those of a file whose layouts are of these parts; `t` and `numbers` have the numbers of its texts.
pub record AreSearchTables (v : Abc) (parts : List Part) (t : Texts) (numbers : List ℕ) (s : SearchTables) : Type 0 where
  pub slots : HasOwnSlots v parts s.slots
  pub scripts : HasScripts v t s.scripts
  pub sets : HasSetKeys v numbers s.sets
