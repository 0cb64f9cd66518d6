-- What is made of a file that keeps the rules of linking.
use Rattle.std.specs.Prelude.{◌<◌, ◌^◌, length}
use Rattle.abc_link_interfaces.specs.Sets.{HasAllSets}
use Rattle.abc_link_layouts.specs.Laid.{AreLayouts}
use Rattle.abc_link.specs.Ladders.{AreRungs}
use Rattle.abc_link.specs.declared.linked.Made.{Made}
use Rattle.abc_link_layouts.specs.Grouped.{HasGroups}
use Rattle.abc_link_names.specs.declared.tables.NameTables.{NameTables}
use Rattle.abc_link_layouts.specs.Owning.{AreOwners}
use Rattle.abc_link.specs.TablesMade.{AreSearchTables}
use Rattle.abc_link_layouts.specs.Files.{linked_file}
use Rattle.abc_link_layouts.specs.Tables.{HasSlots}
use Rattle.abc_file_types.specs.declared.tables.Abc.{Abc}

-- owners of methods, layouts, one far above each, their slots and their own traits, the interfaces of classes, what a search asks
pub record IsLinkedMade (v : Abc) (names : NameTables) (m : Made) : Type 0 where
  pub owners_are : AreOwners v m.owners
  pub layouts_are : AreLayouts v m.layouts
  pub few : length m.layouts.parts < 2 ^ 32
  pub slots_are : HasSlots (linked_file v m.layouts) m.slots (length m.layouts.parts)
  pub rungs_are : AreRungs (linked_file v m.layouts) m.rungs
  pub interfaces_are : HasAllSets v m.interfaces.sets
  pub members_are : HasGroups (linked_file v m.layouts) names.texts m.members.groups (length m.layouts.parts)
  pub search_are : AreSearchTables v m.layouts.parts names.texts names.numbers m.search
