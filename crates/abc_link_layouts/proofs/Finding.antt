-- Layouts and bases as the tables find them.
use Rattle.std.proofs.Common.{◌≡◌, ℕ, ◌<◌, List, Some, None, map, length, get_or, unwrap_or, refl, ap, ◌∙◌}
use Rattle.std.specs.declared.option.Option.{Option}
use Rattle.std.proofs.lemmas.List.{get_or-map}
use Rattle.indexmap.specs.IndexMap.{get}
use Rattle.abc_base.specs.declared.names.HostClass.TheVariants as hosts
use Rattle.abc_base_graphs.specs.Index.{first}
use Rattle.abc_file_types.specs.declared.tables.Abc.{Abc}
use Rattle.abc_link_layouts.specs.Laid.{AreLayouts, HasPartPlaces, PlaceMap, base_found, place_found, under_found}
use Rattle.abc_link_layouts.specs.declared.layouts.Layouts.{Layouts}
use Rattle.abc_link_names.specs.Numbering.{part_at}
use Rattle.abc_link_names.specs.Parts.{parent}
use Rattle.abc_link_names.specs.Places.{base_of, key_eq, part_key, place_of_part, place_under}
use Rattle.abc_link_names.specs.declared.key.PartKey.{PartKey}
use Rattle.abc_link_names.specs.declared.part.Part.{Part}
use Rattle.abc_link_names.specs.declared.part.Part.TheVariants as parts

pub at_keys : (all : List Part) (keys given : List PartKey) (places : PlaceMap) → keys ≡ map part_key all → given ≡ keys → ((k : PartKey) → get key_eq places k ≡ first (key_eq k) given) → (k : PartKey) → get key_eq places k ≡ first (key_eq k) (map part_key all)
at_keys all keys given places e q f k = f k ∙ ap (first (key_eq k)) (q ∙ e)

pub layout_is : (l : Layouts) (p : Part) → HasPartPlaces l → place_found l.places p ≡ place_of_part l.parts p
layout_is l p h = ap (λ o. unwrap_or o 0) (h.places (part_key p))

pub place_is : (all : List Part) (places : PlaceMap) → ((k : PartKey) → get key_eq places k ≡ first (key_eq k) (map part_key all)) → (p : Part) → place_found places p ≡ place_of_part all p
place_is all places f p = ap (λ o. unwrap_or o 0) (f (part_key p))

pub base_is : (v : Abc) (all : List Part) (places : PlaceMap) → ((k : PartKey) → get key_eq places k ≡ first (key_eq k) (map part_key all)) → (x : ℕ) → base_found v places (part_at all x) ≡ base_of v all x
base_is v all places f x = go (parent v (part_at all x))
  where
    go : (o : Option Part) → under_found places o ≡ place_under all o
    go None = refl
    go (Some q) = ap Some (place_is all places f q)

pub base_at : (v : Abc) (l : Layouts) (x : ℕ) → AreLayouts v l → x < length l.parts → get_or l.bases x None ≡ base_of v l.parts x
base_at v l x a lt =
    let none : Option ℕ = None in
    ap (λ (bs : List (Option ℕ)). get_or bs x none) a.bases ∙ get_or-map (base_found v l.places) l.parts x (parts.Host hosts.Object) none lt ∙ base_is v l.parts l.places a.found.places x
