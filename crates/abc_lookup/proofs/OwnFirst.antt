-- The own trait of an object's layout that has a name alone is what every search finds.
use Rattle.std.proofs.Common.{◌≡◌, ℕ, ◌&&◌, ◌||◌, List, Bool, true, false, refl, sym, ap, ◌∙◌}
use Rattle.std.specs.Prelude.{None, Some, MatchOption}
use Rattle.std.specs.declared.option.Option.{Option}
use Rattle.abc_base.specs.declared.names.HostClass.TheVariants as hosts
use Rattle.abc_heap_values.specs.declared.values.ObjId.{ObjId}
use Rattle.abc_heap_values.specs.declared.values.Value.TheVariants as values
use Rattle.abc_heap_store.specs.Heap.{Heap}
use Rattle.abc_link_names.specs.declared.named.DefiniteName.{DefiniteName}
use Rattle.abc_base_graphs.specs.Ways.{way}
use Rattle.abc_link_names.proofs.Finding.{falling}
use Rattle.abc_link_names.specs.Linked.{IsLinkedFile, LinkedFile, base_layout}
use Rattle.abc_link_names.specs.Numbering.{part_at}
use Rattle.abc_link_names.specs.Owners.{owner_of}
use Rattle.abc_link_names.specs.declared.part.Part.{Part}
use Rattle.abc_link_names.specs.declared.part.Part.TheVariants as parts
use Rattle.abc_objects.proofs.Joins.{ends, hit_first}
use Rattle.abc_objects.specs.Candidates.{answer_of_search, holder_of, layout_at, text_of_span, things_along, traits, traits_of_object, where_public}
use Rattle.abc_objects.specs.Results.{is_hit, skip_for}
use Rattle.abc_objects.specs.Searches.{found_on}
use Rattle.abc_objects.specs.Spaces.{holds_pooled, holds_protected, is_protected}
use Rattle.abc_objects.specs.Traits.{Trait, traits_named}
use Rattle.abc_objects.specs.declared.found.Found.{Found}
use Rattle.abc_objects.specs.declared.found.Found.TheVariants as founds
use Rattle.abc_objects.specs.declared.found.Skip.{Skip}
use Rattle.abc_objects.specs.declared.found.Skip.TheVariants as skips
use Rattle.abc_objects.specs.declared.found.Want.{Want}
use Rattle.abc_objects.specs.declared.name.Name.{Name}
use Rattle.abc_objects.specs.declared.name.Spaces.TheVariants.{One}
use Rattle.abc_objects.specs.declared.traits.Member.{Member}
use Rattle.abc_objects.specs.declared.traits.Member.TheVariants as members
use Rattle.abc_objects.specs.declared.traits.TraitSpace.TheVariants as spaces
use Rattle.abc_lookup.specs.OwnTraits.{GivesMember, HasTable, own_named}
use Rattle.abc_lookup.specs.Slots.{members_of}
use Rattle.abc_lookup.specs.Steps.{along, fits_held, layout_result, gives_found, member_found}
use Rattle.abc_lookup.proofs.Along.{along_first, before_here, declared_all}
use Rattle.abc_lookup.proofs.SameSpace.{same_where_equal}
use Rattle.abc_lookup.proofs.TextFirst.{fit, table_given}

-- ---- a name with just the namespace of a trait fits it

fits_just : (l : LinkedFile) (n : Name) (x : ℕ) (held : Bool) (ns : ℕ) → n.spaces ≡ One ns → fits_held l n x held (spaces.Pool ns) ≡ true
fits_just l n x held ns e =
    ap (λ f. holds_pooled l f ns || (is_protected l x (spaces.Pool ns) && held)) e
    ∙ ap (λ b. b || (is_protected l x (spaces.Pool ns) && held)) (sym (same_where_equal l.file ns ns refl))

pub given_just : (l : LinkedFile) (n : Name) (x : ℕ) (d : DefiniteName) (ms : List Member) (ts : List Trait) (r : Option Member) → n.spaces ≡ One d.ns → members_of r ≡ ms → ts ≡ traits_named l d ms → MatchOption r (Unit {0}) (GivesMember l n x ts)
given_just l n x d ms ts None e is at = tt
given_just l n x d ms ts (Some m) e is at = λ s held. fit l n s x held d m ms (fits_just l n x held d.ns e) is ∙ ap (gives_found l n s x held) (sym at)

-- what gives the same gives it too
pub given_more : (l : LinkedFile) (n : Name) (x : ℕ) (ts us : List Trait) (r : Option Member) → ((s : Skip) (held : Bool) → gives_found l n s x held ts ≡ gives_found l n s x held us) → MatchOption r (Unit {0}) (GivesMember l n x ts) → MatchOption r (Unit {0}) (GivesMember l n x us)
given_more l n x ts us None same g = tt
given_more l n x ts us (Some m) same g = λ s held. g s held ∙ same s held

-- ---- no search passes over slots and methods

slot_taken : (l : LinkedFile) (s : Skip) (k : ℕ) (c : Bool) → founds.Slot k c ≡ member_found l s (members.Slot k c)
slot_taken l skips.Setters k c = refl
slot_taken l skips.Getters k c = refl
slot_taken l skips.Nothing k c = refl

method_taken : (l : LinkedFile) (s : Skip) (m : ℕ) → founds.Method (owner_of l.file m) m ≡ member_found l s (members.Method m)
method_taken l skips.Setters m = refl
method_taken l skips.Getters m = refl
method_taken l skips.Nothing m = refl

-- ---- the parts of most layouts

pub global_table : (p : Part) (k : ℕ) → p ≡ parts.Global k → HasTable p
global_table p k e = record { no_class = λ q. no_class (sym e ∙ q); no_catch = λ b h q. no_catch b h (sym e ∙ q) }
  where
    no_class : parts.Global k ≡ parts.Host hosts.Class → ⊥
    no_class q = cc

    no_catch : (b h : ℕ) → parts.Global k ≡ parts.Catch b h → ⊥
    no_catch b h q = cc

pub instance_table : (p : Part) (k : ℕ) → p ≡ parts.Instance k → HasTable p
instance_table p k e = record { no_class = λ q. no_class (sym e ∙ q); no_catch = λ b h q. no_catch b h (sym e ∙ q) }
  where
    no_class : parts.Instance k ≡ parts.Host hosts.Class → ⊥
    no_class q = cc

    no_catch : (b h : ℕ) → parts.Instance k ≡ parts.Catch b h → ⊥
    no_catch b h q = cc

-- ---- what is found

trait_first : (l : LinkedFile) (h : Heap) (o : ObjId) (n : Name) (want : Want) (x : ℕ) (f : Found) → IsLinkedFile l → HasTable (part_at l.parts x) → x ≡ layout_at h o.0 → is_hit f ≡ true
    → ((s : Skip) (held : Bool) → f ≡ gives_found l n s x held (own_named l h x n)) → f ≡ found_on l h (values.Obj o) n want
unfolding found_on
trait_first l h o n want x f linked table at hit gs =
    let s = skip_for want in
    let t = text_of_span l h n.text in
    let held = holds_protected l n.spaces x in
    let first : f ≡ layout_result l t n s x held = table_given l t n s x held f table.no_class table.no_catch (gs s held) in
    let all : f ≡ along l t n s false (way (base_layout l) (Some x)) = sym (hit_first f (along l t n s held (way (base_layout l) (base_layout l x))) hit) ∙ along_first l t n s false held x f linked refl first in
    let none = before_here (holds_protected l n.spaces) (base_layout l) (falling l.file l.parts linked.numbering) x x refl in
    let declared : f ≡ answer_of_search l h n s (traits l x x) = all ∙ declared_all l h n s x x false t refl (sym none) in
    let here : f ≡ answer_of_search l h n s (traits_of_object l h o.0) = declared ∙ ap (λ y. answer_of_search l h n s (traits l y y)) at in
    ends l h n s (traits_of_object l h o.0) (where_public l n (things_along h (Some o.0))) f here hit

pub slot_first : (l : LinkedFile) (h : Heap) (o : ObjId) (n : Name) (want : Want) (x k : ℕ) (c : Bool) (m : Member) → IsLinkedFile l → HasTable (part_at l.parts x) → x ≡ layout_at h o.0 → m ≡ members.Slot k c → GivesMember l n x (own_named l h x n) m
    → founds.Slot k c ≡ found_on l h (values.Obj o) n want
slot_first l h o n want x k c m linked table at is g =
    trait_first l h o n want x (founds.Slot k c) linked table at refl (λ s held. slot_taken l s k c ∙ ap (member_found l s) (sym is) ∙ g s held)

pub method_first : (l : LinkedFile) (h : Heap) (o : ObjId) (n : Name) (want : Want) (x k : ℕ) (m : Member) → IsLinkedFile l → HasTable (part_at l.parts x) → x ≡ layout_at h o.0 → m ≡ members.Method k → GivesMember l n x (own_named l h x n) m
    → founds.Method (owner_of l.file k) k ≡ found_on l h (values.Obj o) n want
method_first l h o n want x k m linked table at is g =
    trait_first l h o n want x (founds.Method (owner_of l.file k) k) linked table at refl (λ s held. method_taken l s k ∙ ap (member_found l s) (sym is) ∙ g s held)
