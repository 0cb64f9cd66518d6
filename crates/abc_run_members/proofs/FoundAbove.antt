-- What is found above a class is a declared trait's.
use Rattle.std.proofs.Common.{inl, inr, ℕ, ◌<◌, Bool, true, false, List, [], ◌∷◌, ◌++◌, cond, length, map, refl, sym, subst, arith}
use Rattle.std.specs.Prelude.{Some}
use Rattle.std.specs.List.{list_any}
use Rattle.abc_heap_values.specs.declared.values.ObjId.{ObjId}
use Rattle.abc_heap_store.specs.Heap.{Heap, object_at}
use Rattle.abc_base_graphs.specs.Ways.{before, way}
use Rattle.abc_link_names.specs.Linked.{IsLinkedFile, LinkedFile, above, base_layout}
use Rattle.abc_link_names.proofs.Tree.{above_le}
use Rattle.abc_objects.specs.Candidates.{Candidate, OfElement, OfLength, OfProperty, OfTrait, fits, found_candidate, found_as, traits, traits_after}
use Rattle.abc_objects.specs.Laws.{AnswersTheFirst}
use Rattle.abc_objects.specs.Results.{skip_for}
use Rattle.abc_objects.specs.Searches.{declared_found}
use Rattle.abc_objects.specs.Traits.{Trait, own}
use Rattle.abc_objects.specs.declared.found.Found.{Found}
use Rattle.abc_objects.specs.declared.found.Found.TheVariants as founds
use Rattle.abc_objects.specs.declared.found.Want.{Want}
use Rattle.abc_objects.specs.declared.name.Name.{Name}
use Rattle.abc_objects.specs.declared.traits.Member.{Member}
use Rattle.abc_objects.specs.declared.traits.Member.TheVariants as members
use Rattle.abc_meaning.specs.Supers.{strict}
use Rattle.abc_run_members.specs.Found.{IsDeclared, found_above}

member_there : (l : LinkedFile) (m : Member) → IsDeclared l (found_as l m)
member_there l (members.Slot slot constant) = tt
member_there l (members.Method m) = refl
member_there l (members.Getter m) = tt
member_there l (members.Setter m) = tt

none_there : (l : LinkedFile) (b : Bool) → IsDeclared l (cond b founds.WrongSide founds.Missing)
none_there l true = tt
none_there l false = tt

-- the candidates are traits
abbrev IsTrait : Candidate → Type 0
IsTrait (OfTrait x passed t) = Unit {0}
IsTrait other = ⊥

trait_there : (l : LinkedFile) (c : Candidate) → IsTrait c → IsDeclared l (found_candidate l c)
trait_there l (OfTrait x passed t) is = member_there l t.declared.member
trait_there l (OfLength holder) is = absurd is
trait_there l (OfElement holder index) is = absurd is
trait_there l (OfProperty holder name value) is = absurd is

abbrev AllTraits : List Candidate → Type 0
AllTraits [] = Unit {0}
AllTraits (c ∷ cs) = IsTrait c × AllTraits cs

both_traits : (cs ds : List Candidate) → AllTraits cs → AllTraits ds → AllTraits (cs ++ ds)
both_traits [] ds a b = b
both_traits (c ∷ cs) ds a b = (a.0, both_traits cs ds a.1 b)

one_trait : (cs ds : List Candidate) (c : Candidate) → AllTraits (cs ++ c ∷ ds) → IsTrait c
one_trait [] ds c a = a.0
one_trait (d ∷ cs) ds c a = one_trait cs ds c a.1

mapped_traits : (x : ℕ) (passed : List ℕ) (ts : List Trait) → AllTraits (map (OfTrait x passed) ts)
mapped_traits x passed [] = tt
mapped_traits x passed (t ∷ ts) = (tt, mapped_traits x passed ts)

all_traits : (l : LinkedFile) (passed xs : List ℕ) → AllTraits (traits_after l passed xs)
all_traits l passed [] = tt
all_traits l passed (x ∷ xs) = both_traits (map (OfTrait x (passed ++ x ∷ [])) (own l x)) (traits_after l (passed ++ x ∷ []) xs) (mapped_traits x (passed ++ x ∷ []) (own l x)) (all_traits l (passed ++ x ∷ []) xs)

declared_there : (l : LinkedFile) (h : Heap) (object from : ℕ) (n : Name) (want : Want) → AnswersTheFirst → IsDeclared l (declared_found l h object from n want)
unfolding declared_found
declared_there l h object from n want first = elim (first l h n (skip_for want) (traits l object from)) [
  | inl hit ↦
      let is = one_trait hit.1.before hit.1.after hit.0 (subst AllTraits hit.1.parts (all_traits l (before from (way (base_layout l) (Some object))) (way (base_layout l) (Some from)))) in
      subst (IsDeclared l) (sym hit.2) (trait_there l hit.0 is)
  | inr miss ↦ subst (IsDeclared l) (sym miss.1) (none_there l (list_any (fits l h n) (traits l object from)))
]

strict_there : (l : LinkedFile) (f : Found) → IsDeclared l f → IsDeclared l (strict f)
strict_there l founds.Missing i = tt
strict_there l f i = i

pub above_there : (l : LinkedFile) (h : Heap) (from : ℕ) (o : ObjId) (n : Name) (want : Want) → AnswersTheFirst → IsDeclared l (found_above l h from o n want)
above_there l h from o n want first = strict_there l (declared_found l h (object_at h.objects o.0).layout (above l from) n want) (declared_there l h (object_at h.objects o.0).layout (above l from) n want first)

pub above_layout : (l : LinkedFile) → IsLinkedFile l → (x : ℕ) → x < length l.parts → above l x < length l.parts
above_layout l f x b = let up = above_le l f x in omega arith
