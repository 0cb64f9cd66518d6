-- Names without the public namespace, and traits that hide those of bases.
use Rattle.std.proofs.Common.{◌≡◌, inl, inr, ℕ, List, [], ◌∷◌, ◌++◌, true, cond, eq-eqb, refl, sym, ap, ◌∙◌}
use Rattle.std.proofs.lemmas.Bool.{false≢true}
use Rattle.std.proofs.lemmas.List.{append-nil}
use Rattle.std.proofs.lemmas.List.Folds.{find-append}
use Rattle.std.specs.Option.{option_or}
use Rattle.std.specs.List.{find, list_any}
use Rattle.abc_base_graphs.specs.Ways.{before, places_along, way}
use Rattle.abc_heap_store.specs.Heap.{Heap}
use Rattle.abc_link_names.specs.Linked.{LinkedFile, base_layout}
use Rattle.abc_objects.specs.Results.{skip_for}
use Rattle.abc_objects.specs.declared.found.Skip.{Skip}
use Rattle.abc_objects.specs.Candidates.{Candidate, answer_of_search, fits, holder_of, is_answer, found_or_not, things_along, traits, traits_after, traits_on}
use Rattle.abc_objects.specs.Laws.{FindsTraitsAlone, HidesItsBase, own_candidates}
use Rattle.abc_objects.specs.Searches.{declared_found, found_on}
use Rattle.abc_objects.specs.declared.name.Name.{Name}
use Rattle.abc_objects.proofs.Firsts.{finds_first}

pub finds_traits_alone : FindsTraitsAlone
unfolding found_on
finds_traits_alone l h v n want e =
    ap (λ cs. answer_of_search l h n (skip_for want) cs) (ap (λ b. traits_on l h v ++ cond b (things_along h (holder_of h v)) []) e ∙ append-nil (traits_on l h v))

-- where a list has an answer, what follows it is not looked at
front_answers : (l : LinkedFile) (h : Heap) (n : Name) (s : Skip) (cs ds : List Candidate) → list_any (is_answer l h n s) cs ≡ true → answer_of_search l h n s (cs ++ ds) ≡ answer_of_search l h n s cs
unfolding answer_of_search
front_answers l h n s cs ds any = elim (finds_first (is_answer l h n s) cs) [
  | inl hit ↦
      ap (λ o. found_or_not l o (list_any (fits l h n) (cs ++ ds))) (find-append (is_answer l h n s) cs ds)
      ∙ ap (λ o. found_or_not l (option_or o (find (is_answer l h n s) ds)) (list_any (fits l h n) (cs ++ ds))) hit.2
      ∙ sym (ap (λ o. found_or_not l o (list_any (fits l h n) cs)) hit.2)
  | inr miss ↦ let no = sym any ∙ miss.0 in absurd (false≢true (sym no))
]

-- the traits of a layout come first, and then those of its bases
traits_split : (l : LinkedFile) (x : ℕ) → traits l x x ≡ own_candidates l x ++ traits_after l (x ∷ []) (places_along (base_layout l) x (base_layout l x))
unfolding way
traits_split l x = ap (λ b. traits_after l (cond b [] (x ∷ before x (places_along (base_layout l) x (base_layout l x)))) (x ∷ places_along (base_layout l) x (base_layout l x))) (eq-eqb x x refl)

pub hides_its_base : HidesItsBase
unfolding declared_found
hides_its_base l h x n want any =
    ap (λ cs. answer_of_search l h n (skip_for want) cs) (traits_split l x)
    ∙ front_answers l h n (skip_for want) (own_candidates l x) (traits_after l (x ∷ []) (places_along (base_layout l) x (base_layout l x))) any
