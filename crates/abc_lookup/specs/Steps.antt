-- How far the code has come.
use Rattle.std.specs.Prelude.{ℕ, ◌<◌, List, [], ◌∷◌, Bool, ◌&&◌, ◌||◌, Some, None, length, if◌then◌else◌}
use Rattle.std.specs.declared.option.Option.{Option}
use Rattle.std.specs.List.{filter}
use Rattle.std.specs.Str.{bytes_eq}
use Rattle.abc_link_names.specs.Linked.{LinkedFile}
use Rattle.abc_link_names.specs.declared.part.LayoutId.{LayoutId}
use Rattle.abc_objects.specs.Candidates.{found_as}
use Rattle.abc_objects.specs.Results.{or_next, passes_over}
use Rattle.abc_objects.specs.Scopes as scopes
use Rattle.abc_objects.specs.Spaces.{holds_trait_space, holds_protected, is_protected}
use Rattle.abc_objects.specs.Traits.{Trait, own}
use Rattle.abc_objects.specs.declared.found.Found.{Found}
use Rattle.abc_objects.specs.declared.found.Found.TheVariants.{WrongSide, Missing}
use Rattle.abc_objects.specs.declared.found.Skip.{Skip}
use Rattle.abc_objects.specs.declared.name.Name.{Name}
use Rattle.abc_objects.specs.declared.traits.Declared.{Declared}
use Rattle.abc_objects.specs.declared.traits.Member.{Member}
use Rattle.abc_objects.specs.declared.traits.TraitSpace.{TraitSpace}
use Rattle.abc_lookup.specs.declared.place.Place.{Place}
use Rattle.abc_lookup.specs.declared.place.Place.TheVariants as places

-- ---- declared traits

-- the namespace fits, where the name holds a protected namespace of the way or not
abbrev pub fits_held : LinkedFile → Name → ℕ → Bool → TraitSpace → Bool
fits_held l n x held s = holds_trait_space l n.spaces s || (is_protected l x s && held)

-- what a trait that fits gives
abbrev pub member_found : LinkedFile → Skip → Member → Found
member_found l s m = if passes_over s m then WrongSide else found_as l m

-- what a trait with the text gives
abbrev pub trait_result : LinkedFile → Name → Skip → ℕ → Bool → Declared → Found
trait_result l n s x held d = if fits_held l n x held d.space then member_found l s d.member else Missing

abbrev pub gives_found : LinkedFile → Name → Skip → ℕ → Bool → List Trait → Found
gives_found l n s x held [] = Missing
gives_found l n s x held (t ∷ ts) = or_next (trait_result l n s x held t.declared) (gives_found l n s x held ts)

-- the traits with a text
abbrev pub with_text : List ℕ → List Trait → List Trait
with_text text ts = filter (λ (t : Trait). bytes_eq text t.text) ts

-- what the traits of one layout give, and those of the layouts of a way
unfoldable pub layout_result : LinkedFile → List ℕ → Name → Skip → ℕ → Bool → Found
layout_result l text n s x held = gives_found l n s x held (with_text text (own l x))

unfoldable pub along : LinkedFile → List ℕ → Name → Skip → Bool → List ℕ → Found
along l text n s held [] = Missing
along l text n s held (x ∷ xs) = or_next (layout_result l text n s x (held || holds_protected l n.spaces x)) (along l text n s (held || holds_protected l n.spaces x) xs)

abbrev pub layout_number : Option LayoutId → Option ℕ
layout_number None = None
layout_number (Some x) = Some x.0

-- ---- places of a search in scopes

abbrev pub scope_place_of : Place → scopes.ScopePlace
scope_place_of (places.InScope e) = scopes.InScope e
scope_place_of (places.InScript s) = scopes.InScript s
scope_place_of places.InHost = scopes.InHost

abbrev pub place_if_any : Option Place → Option scopes.ScopePlace
place_if_any None = None
place_if_any (Some p) = Some (scope_place_of p)

-- a script that is named as a place is one of the file
abbrev pub IsScriptPlace : LinkedFile → Option Place → Type 0
IsScriptPlace l (Some (places.InScript s)) = s < length l.file.scripts
IsScriptPlace l other = Unit {0}
