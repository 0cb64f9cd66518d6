-- The layouts of a file, as the tables that say them.
use Rattle.std.specs.Prelude.{◌≡◌, ℕ, ◌<◌, List, Some, None, map, length, get_or, unwrap_or}
use Rattle.std.specs.declared.option.Option.{Option}
use Rattle.std.specs.declared.hash.FoldHasher.{FoldHasher}
use Rattle.std.specs.declared.hash.BuildHasherDefault.{BuildHasherDefault}
use Rattle.indexmap.specs.IndexMap.{get, IndexMap}
use Rattle.abc_base_graphs.specs.Index.{first}
use Rattle.abc_file_types.specs.declared.tables.Abc.{Abc}
use Rattle.abc_link_names.specs.Numbering.{IsNumbering}
use Rattle.abc_link_names.specs.Parts.{parent}
use Rattle.abc_link_names.specs.Places.{base_of, key_eq, part_key}
use Rattle.abc_link_names.specs.declared.key.PartKey.{PartKey}
use Rattle.abc_link_layouts.specs.Numbering.{numbering}
use Rattle.abc_link_layouts.specs.declared.layouts.Layouts.{Layouts}
use Rattle.abc_link_names.specs.declared.part.Part.{Part}

abbrev pub PlaceMap : Type 0
PlaceMap = IndexMap PartKey ℕ (BuildHasherDefault FoldHasher)

-- the place that a map has for a part
abbrev pub place_found : PlaceMap → Part → ℕ
place_found places p = unwrap_or (get key_eq places (part_key p)) 0

abbrev pub under_found : PlaceMap → Option Part → Option ℕ
under_found places None = None
under_found places (Some q) = Some (place_found places q)

abbrev pub base_found : Abc → PlaceMap → Part → Option ℕ
base_found v places p = under_found places (parent v p)

-- each part is found at its first place
pub record HasPartPlaces (l : Layouts) : Type 0 where
  pub places : (k : PartKey) → get key_eq l.places k ≡ first (key_eq k) (map part_key l.parts)

-- the parts have their numbers, are found by them, and so are the layouts that they stand under
pub record AreLayouts (v : Abc) (l : Layouts) : Type 0 where
  pub is : l.parts ≡ numbering v
  pub numbering : IsNumbering v l.parts
  pub found : HasPartPlaces l
  pub bases : l.bases ≡ map (base_found v l.places) l.parts
