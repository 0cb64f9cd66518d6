-- The first naming of a method is found by its place.
use Rattle.std.proofs.Common.{◌≡◌, ℕ, zero, suc, ◌+◌, Bool, true, false, List, [], ◌∷◌, Some, None, map, get_or, slice_get, nat_eq, refl, sym, ap, ◌∙◌}
use Rattle.std.specs.Prelude.{if◌then◌else◌, unwrap_or}
use Rattle.std.proofs.lemmas.Option.{unwrap_or-slice_get}
use Rattle.std.specs.declared.option.Option.{Option}
use Rattle.abc_base_graphs.specs.Index.{first, first_from}
use Rattle.abc_link_names.specs.Owners.{body_of, namings, owner_at, owner_of}
use Rattle.abc_link_names.specs.declared.types.Naming.{Naming}
use Rattle.abc_link_names.specs.declared.types.Owner.{Owner}
use Rattle.abc_link_names.specs.Methods.{methods_with_bodies}
use Rattle.abc_file_types.specs.declared.tables.Abc.{Abc}
use Rattle.abc_link_layouts.specs.Owning.{AreOwners}
use Rattle.abc_link_layouts.specs.declared.owners.Owners.{Owners}

first_map : {A : Type 0} (g : A → ℕ) (m i : ℕ) (xs : List A) → first_from (nat_eq m) i (map g xs) ≡ first_from (λ x. nat_eq m (g x)) i xs
first_map g m i [] = refl
first_map g m i (x ∷ xs) = ap (λ (r : Option ℕ). if nat_eq m (g x) then Some i else r) (first_map g m (i + 1) xs)

pub owner_found : (v : Abc) (o : Owners) (m : ℕ) (place : Option ℕ) (r : Owner) → AreOwners v o → place ≡ unwrap_or (slice_get o.places m) None → r ≡ owner_at o.namings place → r ≡ owner_of v m
owner_found v o m place r a e is =
    is
    ∙ ap (owner_at o.namings) (e ∙ unwrap_or-slice_get o.places m None ∙ a.places_are.finds m ∙ first_map (λ (n : Naming). n.method) m 0 o.namings)
    ∙ ap (λ (ns : List Naming). owner_at ns (first (λ (n : Naming). nat_eq m n.method) ns)) a.namings_are

pub body_found : (v : Abc) (o : Owners) (m : ℕ) → AreOwners v o → unwrap_or (slice_get o.bodies m) None ≡ body_of v m
body_found v o m a = unwrap_or-slice_get o.bodies m None ∙ a.bodies_are.finds m
