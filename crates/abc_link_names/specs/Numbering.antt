-- Layouts by their numbers: a list of the parts that have one (profile: docs/LINKING.md, "Layouts").
use Rattle.std.specs.Prelude.{◌≡◌, ◌≢◌, ℕ, ◌<◌, List, Some, All, Contains, length, take, get_or}
use Rattle.abc_base.specs.declared.names.HostClass.TheVariants as hosts
use Rattle.abc_file_types.specs.declared.tables.Abc.{Abc}
use Rattle.abc_link_names.specs.Parts.{HasLayout, parent}
use Rattle.abc_link_names.specs.declared.part.Part.{Part}
use Rattle.abc_link_names.specs.declared.part.Part.TheVariants as parts

-- the part whose layout has the number x
abbrev pub part_at : List Part → ℕ → Part
part_at all x = get_or all x (parts.Host hosts.Object)

-- what a part stands under has a lower number
pub record IsNumberedBehind (v : Abc) (all : List Part) : Type 0 where
  pub behind : (x : ℕ) (q : Part) → x < length all → parent v (part_at all x) ≡ Some q → Contains (take x all) q

-- every part that has a layout has one number, and no other has one
pub record IsNumbering (v : Abc) (all : List Part) : Type 0 where
  pub every : (p : Part) → HasLayout v p → Contains all p
  pub only : All (HasLayout v) all
  pub behind : IsNumberedBehind v all
  pub apart : (x y : ℕ) → x < y → y < length all → part_at all x ≢ part_at all y
