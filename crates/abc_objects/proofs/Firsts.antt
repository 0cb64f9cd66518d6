-- The first that passes a test.
use Rattle.std.proofs.Common.{◌≡◌, ◌⊎◌, inl, inr, List, [], ◌∷◌, Bool, true, false, cond, ◌||◌, refl, ap, ◌∙◌}
use Rattle.std.specs.Prelude.{Some, None}
use Rattle.std.specs.List.{find, list_any}
use Rattle.abc_objects.specs.Candidates.{answer_of_search, fits, is_answer, found_or_not}
use Rattle.abc_objects.specs.Laws.{AnswersTheFirst, FindsTheFirstPlace, IsFirstThat}
use Rattle.abc_objects.specs.Scopes.{has, scope_places, scope_named}
use Rattle.abc_objects.specs.Searches.{found_in_scopes}

-- what `find` answers: the first that passes, or none where none passes
abbrev pub FindsFirst : {X : Type 0} → (X → Bool) → List X → Type 0
FindsFirst {X} test xs = ((x : X) × IsFirstThat test xs x × (find test xs ≡ Some x)) ⊎ ((list_any test xs ≡ false) × (find test xs ≡ None))

here : {X : Type 0} (test : X → Bool) (x : X) (xs : List X) → test x ≡ true → FindsFirst test (x ∷ xs)
here test x xs e = inl (x, record { before = []; after = xs; parts = refl; passes = e; none = refl }, ap (λ b. cond b (Some x) (find test xs)) e)

further : {X : Type 0} (test : X → Bool) (x : X) (xs : List X) → test x ≡ false → FindsFirst test xs → FindsFirst test (x ∷ xs)
further test x xs e (inl (y, first, is)) =
    inl (y, record { before = x ∷ first.before; after = first.after; parts = ap (λ ys. x ∷ ys) first.parts; passes = first.passes; none = ap (λ b. b || list_any test first.before) e ∙ first.none }, ap (λ b. cond b (Some x) (find test xs)) e ∙ is)
further test x xs e (inr (none, is)) = inr (ap (λ b. b || list_any test xs) e ∙ none, ap (λ b. cond b (Some x) (find test xs)) e ∙ is)

pub finds_first : {X : Type 0} (test : X → Bool) (xs : List X) → FindsFirst test xs
finds_first test [] = inr (refl, refl)
finds_first test (x ∷ xs) = go (finds_first test xs) (test x) refl
  where
    go : FindsFirst test xs → (b : Bool) → test x ≡ b → FindsFirst test (x ∷ xs)
    go rest true e = here test x xs e
    go rest false e = further test x xs e rest

pub answers_the_first : AnswersTheFirst
unfolding answer_of_search
answers_the_first l h n s cs = elim (finds_first (is_answer l h n s) cs) [
  | inl hit ↦ inl (hit.0, hit.1, ap (λ c. found_or_not l c (list_any (fits l h n) cs)) hit.2)
  | inr miss ↦ inr (miss.0, ap (λ c. found_or_not l c (list_any (fits l h n) cs)) miss.1)
]

pub finds_the_first_place : FindsTheFirstPlace
unfolding found_in_scopes
finds_the_first_place l h scopes saved started n = elim (finds_first (has l h n) (scope_places l h scopes saved)) [
  | inl hit ↦ inl (hit.0, hit.1, ap (scope_named h started) hit.2)
  | inr miss ↦ inr (miss.0, ap (scope_named h started) miss.1)
]
