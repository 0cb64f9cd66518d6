-- What stands on a slate: a list of optional numbers, at whose places spots of namespaces are.
use Rattle.std.specs.Prelude.{◌≡◌, ℕ, ◌<◌, List, Bool, false, Some, None, nat_eq, min, is_some, length, get_or, set, slice_get}
use Rattle.std.specs.declared.option.Option.{Option}
use Rattle.std.specs.List.{list_any}
use Rattle.abc_base_graphs.specs.Index.{first}
use Rattle.abc_file_types.specs.declared.tables.Abc.{Abc}
use Rattle.abc_link_names.specs.Meaning.{holds_space}
use Rattle.abc_link_names.specs.Pool.{same_space}
use Rattle.abc_link_names.specs.declared.named.Spaces.{Spaces}
use Rattle.abc_link_known.specs.Spots.{spot_of_space, spot_of_class}

-- a slate after something was written at a spot
abbrev pub mark_spot : List (Option ℕ) → Option ℕ → List (Option ℕ)
mark_spot slate None = slate
mark_spot slate (Some p) = set slate p (Some 0)

-- a place is that of a spot
abbrev pub is_at : Option ℕ → ℕ → Bool
is_at None p = false
is_at (Some q) p = nat_eq q p

-- a class has the spot of a namespace
abbrev pub has_spot : Abc → List ℕ → ℕ → ℕ → Bool
has_spot v numbers a c = is_at (spot_of_space v numbers a) (spot_of_class v numbers c)

abbrev pub has_spot_among : Abc → List ℕ → List ℕ → ℕ → Bool
has_spot_among v numbers spaces c = list_any (λ a. has_spot v numbers a c) spaces

-- something stands at just the spots of these namespaces
pub record AreSpotsMarked (v : Abc) (numbers : List ℕ) (slate : List (Option ℕ)) (spaces : List ℕ) : Type 0 where
  pub marked : (p : ℕ) → p < length slate → is_some (get_or slate p None) ≡ list_any (λ a. is_at (spot_of_space v numbers a) p) spaces

-- at each place stands where the first of these classes is whose spot that is
pub record HasFirstClasses (v : Abc) (numbers : List ℕ) (slate : List (Option ℕ)) (classes : List ℕ) : Type 0 where
  pub firsts : (p : ℕ) → p < length slate → get_or slate p None ≡ first (λ c. nat_eq p (spot_of_class v numbers c)) classes

-- the namespaces of a name are these
pub record IsSpaceList (v : Abc) (spaces : Spaces) (list : List ℕ) : Type 0 where
  pub listed : (a : ℕ) → holds_space v spaces a ≡ list_any (same_space v a) list

abbrev pub item_at : List ℕ → Option ℕ → Option ℕ
item_at xs None = None
item_at xs (Some p) = slice_get xs p

abbrev pub earlier_place : Option ℕ → Option ℕ → Option ℕ
earlier_place None b = b
earlier_place (Some a) None = Some a
earlier_place (Some a) (Some b) = Some (min a b)
