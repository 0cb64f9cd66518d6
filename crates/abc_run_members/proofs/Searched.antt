-- What a search finds is there.
use Rattle.std.proofs.Common.{◌≡◌, inl, inr, ℕ, zero, suc, ◌<◌, ◌≤◌, Bool, true, false, cond, List, [], ◌∷◌, length, refl, sym, ◌∙◌, subst, arith}
use Rattle.std.proofs.lemmas.Bool.{cases_lt}
use Rattle.std.specs.Prelude.{slice_get, Some}
use Rattle.std.specs.List.{list_any}
use Rattle.abc_heap_values.specs.declared.values.Span.{Span}
use Rattle.abc_heap_values.specs.declared.values.ObjId.{ObjId}
use Rattle.abc_heap_values.specs.declared.values.Value.{Value}
use Rattle.abc_heap_values.specs.declared.values.Value.TheVariants.{Obj}
use Rattle.abc_lookup.specs.NoTraits.{IsFoundFirst}
use Rattle.abc_heap_store.specs.Heap.{Heap, Object, object_at, properties_of}
use Rattle.abc_objects.specs.Stands.{StandsOver}
use Rattle.abc_objects.specs.Values.{Exists}
use Rattle.abc_link_names.specs.Linked.{LinkedFile}
use Rattle.abc_objects.specs.Candidates.{Candidate, OfElement, OfLength, OfProperty, OfTrait, candidates_on, fits, found_candidate, found_as}
use Rattle.abc_objects.specs.Laws.{AnswersTheFirst, FindsWhatIsThere, IsFoundPresent}
use Rattle.abc_objects.specs.Results.{skip_for}
use Rattle.abc_objects.specs.Searches.{found_on}
use Rattle.abc_objects.specs.declared.found.Found.{Found}
use Rattle.abc_objects.specs.declared.found.Found.TheVariants as founds
use Rattle.abc_objects.specs.declared.found.Want.{Want}
use Rattle.abc_objects.specs.declared.found.Want.TheVariants.{Read}
use Rattle.abc_objects.specs.declared.name.Name.{Name}
use Rattle.abc_objects.specs.declared.traits.Member.{Member}
use Rattle.abc_objects.specs.declared.traits.Member.TheVariants as members
use Rattle.abc_run_members.specs.Members.{IsFoundThere}

pub object_inside : (obs : List Object) (o : ℕ) → o < length obs → slice_get obs o ≡ Some (object_at obs o)
object_inside [] o b = absurd (omega arith)
object_inside (ob ∷ obs) zero b = refl
object_inside (ob ∷ obs) (suc o) b = object_inside obs o (omega arith)

object_past : (obs : List Object) (o : ℕ) → length obs ≤ o → object_at obs o ≡ object_at [] o
object_past [] o b = refl
object_past (ob ∷ obs) zero b = absurd (omega arith)
object_past (ob ∷ obs) (suc o) b = object_past obs o (omega arith)

property_there : (l : LinkedFile) (h : Heap) (o k : ℕ) (n : Span) (x : Value) → StandsOver l h → slice_get (properties_of h.objects o) k ≡ Some (Some (n, x)) → Exists l h x
property_there l h o k n x over e = elim (cases_lt o (length h.objects)) [
  | inl low ↦ ((over.objects o (object_at h.objects o) (object_inside h.objects o low)).properties k (Some (n, x)) e).1
  | inr high ↦
      let gone : slice_get (object_at [] o).properties k ≡ Some (Some (n, x)) = subst (λ (ob : Object). slice_get ob.properties k ≡ Some (Some (n, x))) (object_past h.objects o high) e in
      absurd cc
]

member_there : (l : LinkedFile) (h : Heap) (m : Member) → IsFoundThere l h (found_as l m)
member_there l h (members.Slot slot constant) = tt
member_there l h (members.Method m) = refl
member_there l h (members.Getter m) = tt
member_there l h (members.Setter m) = tt

candidate_there : (l : LinkedFile) (h : Heap) (c : Candidate) → StandsOver l h → IsFoundPresent h (found_candidate l c) → IsFoundThere l h (found_candidate l c)
candidate_there l h (OfTrait x passed t) over is = member_there l h t.declared.member
candidate_there l h (OfLength o) over is = tt
candidate_there l h (OfElement o k) over is = tt
candidate_there l h (OfProperty o n x) over is = property_there l h o is.0 is.1 x over is.2

none_there : (l : LinkedFile) (h : Heap) (b : Bool) → IsFoundThere l h (cond b founds.WrongSide founds.Missing)
none_there l h true = tt
none_there l h false = tt

pub found_there : (l : LinkedFile) (h : Heap) (v : Value) (n : Name) (want : Want) → AnswersTheFirst → FindsWhatIsThere → StandsOver l h → IsFoundThere l h (found_on l h v n want)
unfolding found_on
found_there l h v n want answers finds over = elim (answers l h n (skip_for want) (candidates_on l h n v)) [
  | inl hit ↦ subst (IsFoundThere l h) (sym hit.2) (candidate_there l h hit.0 over (subst (IsFoundPresent h) hit.2 (finds l h v n want)))
  | inr miss ↦ subst (IsFoundThere l h) (sym miss.1) (none_there l h (list_any (fits l h n) (candidates_on l h n v)))
]

-- ---- what is found at once

pub property_first : (l : LinkedFile) (h : Heap) (o : ObjId) (n : Name) (x : Found) (holder : ObjId) (v : Value) → IsFoundFirst l h o n x → x ≡ founds.Property holder v → x ≡ found_on l h (Obj o) n Read
property_first l h o n x holder v f is = is ∙ subst (IsFoundFirst l h o n) is f Read

pub element_first : (l : LinkedFile) (h : Heap) (o : ObjId) (n : Name) (x : Found) (holder : ObjId) (k : ℕ) → IsFoundFirst l h o n x → x ≡ founds.Element holder k → x ≡ found_on l h (Obj o) n Read
element_first l h o n x holder k f is = is ∙ subst (IsFoundFirst l h o n) is f Read

pub first_there : (l : LinkedFile) (h : Heap) (o : ObjId) (n : Name) (x : Found) → AnswersTheFirst → FindsWhatIsThere → StandsOver l h → IsFoundFirst l h o n x → IsFoundThere l h x
first_there l h o n founds.Missing answers finds over f = tt
first_there l h o n (founds.Slot k c) answers finds over f = tt
first_there l h o n (founds.Getter m) answers finds over f = tt
first_there l h o n (founds.Setter m) answers finds over f = tt
first_there l h o n (founds.Element holder k) answers finds over f = tt
first_there l h o n (founds.Length holder) answers finds over f = tt
first_there l h o n founds.WrongSide answers finds over f = tt
first_there l h o n (founds.Method owner m) answers finds over f = subst (λ (y : Found). IsFoundThere l h y) (sym (f Read)) (found_there l h (Obj o) n Read answers finds over)
first_there l h o n (founds.Property holder x) answers finds over f = subst (λ (y : Found). IsFoundThere l h y) (sym (f Read)) (found_there l h (Obj o) n Read answers finds over)
