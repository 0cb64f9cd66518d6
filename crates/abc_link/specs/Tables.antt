-- A linked file, as the tables that say it.
use Rattle.abc_link.specs.LinkedMade.{IsLinkedMade}
use Rattle.abc_link.specs.declared.linked.Linked.TheInside.{Inside}
use Rattle.abc_link_names.specs.Meanings.{AreMeanings}
use Rattle.abc_link_names.specs.Numbers.{AreNames}
use Rattle.abc_link_names.specs.Linked.{LinkedFile}
use Rattle.abc_link_names.specs.Firsts.{IsFew}
use Rattle.abc_link_names.specs.Rules.{AllHold}
use Rattle.abc_link_layouts.specs.Files.{linked_file}
use Rattle.abc_file_types.specs.Files.{Fits}

abbrev pub file_of_tables : Inside → LinkedFile
file_of_tables a = linked_file a.abc a.made.layouts

pub record AreTables (a : Inside) : Type 0 where
  pub fits : Fits a.abc
  pub rules : AllHold a.abc
  pub tables : IsFew a.abc
  pub names_are : AreNames a.abc a.names
  pub meanings_are : AreMeanings a.abc a.meanings
  pub made_of : IsLinkedMade a.abc a.names a.made
