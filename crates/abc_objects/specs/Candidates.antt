-- The candidates of a search, in order, and which of them fit a name (Overview, chapter 2; profile: docs/MACHINE.md, "The search").
use Rattle.std.specs.Prelude.{ℕ, ◌+◌, List, [], ◌∷◌, ◌++◌, Bool, false, not, ◌&&◌, ◌||◌, map, reverse, Some, None, if◌then◌else◌}
use Rattle.std.specs.declared.option.Option.{Option}
use Rattle.std.specs.List.{find, list_any, flat_map}
use Rattle.std.specs.Str.{bytes_eq}
use Rattle.abc_heap_values.specs.declared.values.Span.{Span}
use Rattle.abc_heap_values.specs.declared.values.Value.{Value}
use Rattle.abc_heap_values.specs.declared.values.Value.TheVariants as values
use Rattle.abc_base_graphs.specs.Ways.{way, before}
use Rattle.abc_heap_store.specs.Heap.{Heap, Object, object_at, obj_id}
use Rattle.abc_heap_store.specs.Texts.{text_of}
use Rattle.abc_heap_store.specs.What.{is_array}
use Rattle.abc_link_names.specs.Linked.{LinkedFile, base_layout}
use Rattle.abc_link_names.specs.Owners.{owner_of}
use Rattle.abc_objects.specs.ElementNames.{is_length, names_element}
use Rattle.abc_objects.specs.Objects.{delegate_at, delegate_of}
use Rattle.abc_objects.specs.Results.{passes_over}
use Rattle.abc_objects.specs.Spaces.{holds_trait_space, holds_protected, name_holds_public, is_protected}
use Rattle.abc_objects.specs.Traits.{Trait, own}
use Rattle.abc_objects.specs.declared.found.Found.{Found}
use Rattle.abc_objects.specs.declared.found.Found.TheVariants as founds
use Rattle.abc_objects.specs.declared.found.Skip.{Skip}
use Rattle.abc_objects.specs.declared.name.Name.{Name}
use Rattle.abc_objects.specs.declared.traits.Declared.{Declared}
use Rattle.abc_objects.specs.declared.traits.Member.{Member}
use Rattle.abc_objects.specs.declared.traits.Member.TheVariants as members

-- a declared trait, with its layout and the way to it from the object's layout; or what an object has of its own
pub data Candidate : Type 0 where
  OfTrait : (layout : ℕ) (passed : List ℕ) (trait : Trait) → Candidate
  OfLength : (holder : ℕ) → Candidate
  OfElement : (holder index : ℕ) → Candidate
  OfProperty : (holder : ℕ) (name : Span) (value : Value) → Candidate

-- ---- which fit

-- the namespace is one of the name's, or is the protected one of the trait's class, and the name holds that of a class on the
-- way from the object's class up to the trait's
abbrev pub fits_space : LinkedFile → Name → ℕ → List ℕ → Declared → Bool
fits_space l n x passed d = holds_trait_space l n.spaces d.space || (is_protected l x d.space && list_any (holds_protected l n.spaces) passed)

-- the text of a name, and of another span
abbrev pub text_of_span : LinkedFile → Heap → Span → List ℕ
text_of_span l h s = text_of l.file.strings h s

abbrev pub fits : LinkedFile → Heap → Name → Candidate → Bool
fits l h n (OfTrait x passed t) = bytes_eq (text_of_span l h n.text) t.text && fits_space l n x passed t.declared
fits l h n (OfLength o) = is_length (text_of_span l h n.text)
fits l h n (OfElement o k) = names_element k (text_of_span l h n.text)
fits l h n (OfProperty o s v) = bytes_eq (text_of_span l h n.text) (text_of_span l h s)

abbrev pub is_skipped : Skip → Candidate → Bool
is_skipped s (OfTrait x passed t) = passes_over s t.declared.member
is_skipped s other = false

-- ---- what is found: the first that fits and is not passed over; without one, WrongSide if some other fits, else Missing

abbrev pub found_as : LinkedFile → Member → Found
found_as l (members.Slot slot constant) = founds.Slot slot constant
found_as l (members.Method m) = founds.Method (owner_of l.file m) m
found_as l (members.Getter m) = founds.Getter m
found_as l (members.Setter m) = founds.Setter m

abbrev pub found_candidate : LinkedFile → Candidate → Found
found_candidate l (OfTrait x passed t) = found_as l t.declared.member
found_candidate l (OfLength o) = founds.Length (obj_id o)
found_candidate l (OfElement o k) = founds.Element (obj_id o) k
found_candidate l (OfProperty o s v) = founds.Property (obj_id o) v

abbrev pub is_answer : LinkedFile → Heap → Name → Skip → Candidate → Bool
is_answer l h n s c = fits l h n c && not (is_skipped s c)

abbrev pub found_or_not : LinkedFile → Option Candidate → Bool → Found
found_or_not l (Some c) fit = found_candidate l c
found_or_not l None fit = if fit then founds.WrongSide else founds.Missing

unfoldable pub answer_of_search : LinkedFile → Heap → Name → Skip → List Candidate → Found
answer_of_search l h n s cs = found_or_not l (find (is_answer l h n s) cs) (list_any (fits l h n) cs)

-- ---- the candidates in order

-- the traits of the layouts of a way, after those that were passed
abbrev pub traits_after : LinkedFile → List ℕ → List ℕ → List Candidate
traits_after l passed [] = []
traits_after l passed (x ∷ xs) = map (OfTrait x (passed ++ x ∷ [])) (own l x) ++ traits_after l (passed ++ x ∷ []) xs

-- the traits of a layout and of its bases, for an object whose layout is this one or stands under it
abbrev pub traits : LinkedFile → ℕ → ℕ → List Candidate
traits l object from = traits_after l (before from (way (base_layout l) (Some object))) (way (base_layout l) (Some from))

-- an array's length and elements
abbrev pub elements_from : ℕ → ℕ → List Value → List Candidate
elements_from o k [] = []
elements_from o k (v ∷ vs) = OfElement o k ∷ elements_from o (k + 1) vs

abbrev pub element_candidates : ℕ → Object → List Candidate
element_candidates o ob = if is_array ob.what then OfLength o ∷ elements_from o 0 ob.elements else []

-- the dynamic properties, the youngest first; a deleted one is none
abbrev pub property_at : ℕ → Option (Span × Value) → List Candidate
property_at o None = []
property_at o (Some p) = OfProperty o p.0 p.1 ∷ []

abbrev pub property_candidates : ℕ → Object → List Candidate
property_candidates o ob = flat_map (property_at o) (reverse ob.properties)

-- what an object has of its own, elements first
abbrev pub own_things : Heap → ℕ → List Candidate
own_things h o = element_candidates o (object_at h.objects o) ++ property_candidates o (object_at h.objects o)

-- the same of an object and then of its delegates in turn
abbrev pub things_along : Heap → Option ℕ → List Candidate
things_along h at = flat_map (own_things h) (way (delegate_at h) at)

-- ---- on a value

abbrev pub layout_at : Heap → ℕ → ℕ
layout_at h o = (object_at h.objects o).layout

abbrev pub traits_of_object : LinkedFile → Heap → ℕ → List Candidate
traits_of_object l h o = traits l (layout_at h o) (layout_at h o)

-- a value that is no object has no traits, and nothing of its own
abbrev pub traits_on : LinkedFile → Heap → Value → List Candidate
traits_on l h (values.Obj o) = traits_of_object l h o.0
traits_on l h other = []

abbrev pub holder_of : Heap → Value → Option ℕ
holder_of h (values.Obj o) = Some o.0
holder_of h other = delegate_of h other

-- where the name holds the public namespace or any
abbrev pub where_public : LinkedFile → Name → List Candidate → List Candidate
where_public l n cs = if name_holds_public l n.spaces then cs else []

abbrev pub candidates_on : LinkedFile → Heap → Name → Value → List Candidate
candidates_on l h n v = traits_on l h v ++ where_public l n (things_along h (holder_of h v))
