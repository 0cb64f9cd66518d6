-- A linked file is the file and the list of the parts that have layouts, by the numbers of these. All else is a function of the two
-- (profile: docs/LINKING.md).
use Rattle.std.specs.Prelude.{ℕ, ◌<◌, ◌^◌, List, length, unwrap_or}
use Rattle.std.specs.declared.option.Option.{Option}
use Rattle.abc_file_types.specs.Files.{Fits}
use Rattle.abc_file_types.specs.declared.tables.Abc.{Abc}
use Rattle.abc_link_names.specs.Firsts.{IsFew}
use Rattle.abc_link_names.specs.Rules.{AllHold}
use Rattle.abc_link_names.specs.Numbering.{IsNumbering, part_at}
use Rattle.abc_link_names.specs.Places.{base_of, place_of_part}
use Rattle.abc_link_names.specs.declared.part.LayoutId.{LayoutId}
use Rattle.abc_link_names.specs.declared.part.Part.{Part}

-- A file, and what each of its layouts is of.
pub record LinkedFile : Type 0 where
  pub file : Abc
  pub parts : List Part

-- what a linked file keeps: some bytes spell it, the rules of linking hold, and its layouts are numbered so that a base stands
-- before what is under it
pub record IsLinkedFile (l : LinkedFile) : Type 0 where
  pub fits : Fits l.file
  pub rules : AllHold l.file
  pub numbering : IsNumbering l.file l.parts
  pub tables : IsFew l.file
  pub layouts : length l.parts < 2 ^ 32

-- a number of a layout
abbrev pub IsLayout : LinkedFile → LayoutId → Type 0
IsLayout l x = x.0 < length l.parts

-- what a layout is of, and the layout of a part
abbrev pub part_of : LinkedFile → LayoutId → Part
part_of l x = part_at l.parts x.0

-- the layout of a part that has one
abbrev pub layout_of : LinkedFile → Part → LayoutId
layout_of l p = record { 0 = place_of_part l.parts p }

-- the layout that a layout stands under
abbrev pub base_layout : LinkedFile → ℕ → Option ℕ
base_layout l x = base_of l.file l.parts x

-- the same, with that of Object above itself
abbrev pub above : LinkedFile → ℕ → ℕ
above l x = unwrap_or (base_layout l x) 0
