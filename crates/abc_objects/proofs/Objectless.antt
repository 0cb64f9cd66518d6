-- Declared traits are found by the text of a name, whatever the objects are.
use Rattle.std.proofs.Common.{◌≡◌, ℕ, Bool, ◌&&◌, List, [], ◌∷◌, ◌++◌, map, cond, sym, ap, ◌∙◌}
use Rattle.std.specs.Prelude.{Some}
use Rattle.std.specs.Str.{bytes_eq}
use Rattle.abc_base_graphs.specs.Ways.{before, way}
use Rattle.abc_heap_store.specs.Heap.{Heap}
use Rattle.abc_link_names.specs.Linked.{LinkedFile, base_layout}
use Rattle.abc_objects.specs.Candidates.{OfTrait, answer_of_search, fits_space, found_candidate, is_skipped, text_of_span, traits_after}
use Rattle.abc_objects.specs.Laws.{AsksNoObject}
use Rattle.abc_objects.specs.Results.{or_next, skip_for}
use Rattle.abc_objects.specs.Searches.{declared_found}
use Rattle.abc_objects.specs.Traits.{Trait, own}
use Rattle.abc_objects.specs.declared.found.Found.TheVariants.{WrongSide, Missing}
use Rattle.abc_objects.specs.declared.found.Skip.{Skip}
use Rattle.abc_objects.specs.declared.name.Name.{Name}
use Rattle.abc_objects.proofs.Joins.{one, answer_append, answer_more, answer_none}

same_traits : (l : LinkedFile) (h k : Heap) (n : Name) (s : Skip) (x : ℕ) (passed : List ℕ) (ts : List Trait) → text_of_span l h n.text ≡ text_of_span l k n.text
    → answer_of_search l h n s (map (OfTrait x passed) ts) ≡ answer_of_search l k n s (map (OfTrait x passed) ts)
same_traits l h k n s x passed [] e = answer_none l h n s ∙ sym (answer_none l k n s)
same_traits l h k n s x passed (t ∷ ts) e =
    let c = OfTrait x passed t in
    answer_more l h n s c (map (OfTrait x passed) ts)
    ∙ ap (λ (text : List ℕ). or_next (cond (bytes_eq text t.text && fits_space l n x passed t.declared) (cond (is_skipped s c) WrongSide (found_candidate l c)) Missing) (answer_of_search l h n s (map (OfTrait x passed) ts))) e
    ∙ ap (or_next (one l k n s c)) (same_traits l h k n s x passed ts e)
    ∙ sym (answer_more l k n s c (map (OfTrait x passed) ts))

same_after : (l : LinkedFile) (h k : Heap) (n : Name) (s : Skip) (passed xs : List ℕ) → text_of_span l h n.text ≡ text_of_span l k n.text → answer_of_search l h n s (traits_after l passed xs) ≡ answer_of_search l k n s (traits_after l passed xs)
same_after l h k n s passed [] e = answer_none l h n s ∙ sym (answer_none l k n s)
same_after l h k n s passed (x ∷ xs) e =
    let p = passed ++ x ∷ [] in
    answer_append l h n s (map (OfTrait x p) (own l x)) (traits_after l p xs)
    ∙ ap (λ f. or_next f (answer_of_search l h n s (traits_after l p xs))) (same_traits l h k n s x p (own l x) e)
    ∙ ap (or_next (answer_of_search l k n s (map (OfTrait x p) (own l x)))) (same_after l h k n s p xs e)
    ∙ sym (answer_append l k n s (map (OfTrait x p) (own l x)) (traits_after l p xs))

pub asks_no_object : AsksNoObject
unfolding declared_found
asks_no_object l h k object from n want e = same_after l h k n (skip_for want) (before from (way (base_layout l) (Some object))) (way (base_layout l) (Some from)) e
