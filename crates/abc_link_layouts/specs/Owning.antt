-- Owners and bodies of methods, as the tables that say them.
use Rattle.std.specs.Prelude.{◌≡◌, ℕ, ◌<◌, List, Some, None, drop, get_or, length, map, nat_eq, if◌then◌else◌}
use Rattle.std.specs.declared.option.Option.{Option}
use Rattle.abc_base_graphs.specs.Index.{first, first_from}
use Rattle.abc_link_names.specs.Owners.{namings}
use Rattle.abc_link_names.specs.Methods.{methods_with_bodies}
use Rattle.abc_file_types.specs.declared.tables.Abc.{Abc}
use Rattle.abc_link_layouts.specs.declared.owners.Owners.{Owners}

-- ---- a table that has a place for each number

-- for each number the first place of the numbers, from a place on, where it stands
pub record HasFirstsFrom (table : List (Option ℕ)) (keys : List ℕ) (i : ℕ) : Type 0 where
  pub finds : (k : ℕ) → get_or table k None ≡ first_from (nat_eq k) i (drop i keys)

pub record HasFirstOwners (table : List (Option ℕ)) (keys : List ℕ) : Type 0 where
  pub finds : (k : ℕ) → get_or table k None ≡ first (nat_eq k) keys

-- it got longer, without a place
pub record ReachesKey (old new : List (Option ℕ)) (key : ℕ) : Type 0 where
  pub same : (k : ℕ) → get_or new k None ≡ get_or old k None
  pub within : key < length new

-- it got this place, in place of another
pub record PutsOwner (old new : List (Option ℕ)) (key place : ℕ) : Type 0 where
  pub puts : (k : ℕ) → get_or new k None ≡ (if nat_eq k key then Some place else get_or old k None)

-- ---- the tables of a file

-- all namings of a file, the first place of each method among them, and the first body of each method
pub record AreOwners (v : Abc) (o : Owners) : Type 0 where
  pub namings_are : o.namings ≡ namings v
  pub places_are : HasFirstOwners o.places (map (λ n. n.method) o.namings)
  pub bodies_are : HasFirstOwners o.bodies (methods_with_bodies v)
