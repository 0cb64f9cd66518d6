-- What a list of candidates gives, one after the other.
use Rattle.std.proofs.Common.{◌≡◌, Bool, true, false, not, ◌&&◌, ◌||◌, List, [], ◌∷◌, ◌++◌, cond, refl, sym, ap, ◌∙◌}
use Rattle.std.specs.Prelude.{Some, None}
use Rattle.std.specs.declared.option.Option.{Option}
use Rattle.std.specs.List.{find, list_any}
use Rattle.abc_heap_store.specs.Heap.{Heap}
use Rattle.abc_link_names.specs.Linked.{LinkedFile}
use Rattle.abc_objects.specs.Candidates.{Candidate, OfElement, OfLength, OfProperty, OfTrait, answer_of_search, fits, found_candidate, found_as, is_answer, is_skipped, found_or_not}
use Rattle.abc_objects.specs.Results.{is_hit, or_next, passes_over}
use Rattle.abc_objects.specs.declared.found.Found.{Found}
use Rattle.abc_objects.specs.declared.found.Found.TheVariants.{Slot, Method, Getter, Setter, Property, Element, Length, WrongSide, Missing}
use Rattle.abc_objects.specs.declared.found.Skip.{Skip}
use Rattle.abc_objects.specs.declared.found.Skip.TheVariants.{Nothing}
use Rattle.abc_objects.specs.declared.name.Name.{Name}
use Rattle.abc_objects.specs.declared.traits.Member.{Member}
use Rattle.abc_objects.specs.declared.traits.Member.TheVariants as members

-- what one candidate gives
abbrev pub one : LinkedFile → Heap → Name → Skip → Candidate → Found
one l h n s c = cond (fits l h n c) (cond (is_skipped s c) WrongSide (found_candidate l c)) Missing

-- a hit ends the search
hit_found : (l : LinkedFile) (c : Candidate) (b : Found) → or_next (found_candidate l c) b ≡ found_candidate l c
hit_found l (OfTrait x p t) b = go t.declared.member
  where
    go : (m : Member) → or_next (found_as l m) b ≡ found_as l m
    go (members.Slot s c) = refl
    go (members.Method m) = refl
    go (members.Getter m) = refl
    go (members.Setter m) = refl
hit_found l (OfLength o) b = refl
hit_found l (OfElement o k) b = refl
hit_found l (OfProperty o n v) b = refl

wrong_then_hit : (l : LinkedFile) (c : Candidate) → or_next WrongSide (found_candidate l c) ≡ found_candidate l c
wrong_then_hit l (OfTrait x p t) = go t.declared.member
  where
    go : (m : Member) → or_next WrongSide (found_as l m) ≡ found_as l m
    go (members.Slot s c) = refl
    go (members.Method m) = refl
    go (members.Getter m) = refl
    go (members.Setter m) = refl
wrong_then_hit l (OfLength o) = refl
wrong_then_hit l (OfElement o k) = refl
wrong_then_hit l (OfProperty o n v) = refl

is_found : (l : LinkedFile) (c : Candidate) → is_hit (found_candidate l c) ≡ true
is_found l (OfTrait x p t) = go t.declared.member
  where
    go : (m : Member) → is_hit (found_as l m) ≡ true
    go (members.Slot s c) = refl
    go (members.Method m) = refl
    go (members.Getter m) = refl
    go (members.Setter m) = refl
is_found l (OfLength o) = refl
is_found l (OfElement o k) = refl
is_found l (OfProperty o n v) = refl

pub answer_none : (l : LinkedFile) (h : Heap) (n : Name) (s : Skip) → answer_of_search l h n s [] ≡ Missing
unfolding answer_of_search
answer_none l h n s = refl

-- one candidate, and then the others
pub answer_more : (l : LinkedFile) (h : Heap) (n : Name) (s : Skip) (c : Candidate) (cs : List Candidate) → answer_of_search l h n s (c ∷ cs) ≡ or_next (one l h n s c) (answer_of_search l h n s cs)
unfolding answer_of_search
answer_more l h n s c cs = cases (fits l h n c) (is_skipped s c)
  where
    fs : Bool
    fs = list_any (fits l h n) cs

    first : Option Candidate
    first = find (is_answer l h n s) cs

    wrong : (o : Option Candidate) (any : Bool) → found_or_not l o true ≡ or_next WrongSide (found_or_not l o any)
    wrong (Some d) any = sym (wrong_then_hit l d)
    wrong None true = refl
    wrong None false = refl

    cases : (f k : Bool) → found_or_not l (cond (f && not k) (Some c) first) (f || fs) ≡ or_next (cond f (cond k WrongSide (found_candidate l c)) Missing) (found_or_not l first fs)
    cases false k = refl
    cases true true = wrong first fs
    cases true false = sym (hit_found l c (found_or_not l first fs))

pub or_assoc : (x y z : Found) → or_next (or_next x y) z ≡ or_next x (or_next y z)
or_assoc Missing y z = refl
or_assoc WrongSide Missing z = refl
or_assoc WrongSide WrongSide Missing = refl
or_assoc WrongSide WrongSide WrongSide = refl
or_assoc WrongSide WrongSide (Slot a b) = refl
or_assoc WrongSide WrongSide (Method a b) = refl
or_assoc WrongSide WrongSide (Getter a) = refl
or_assoc WrongSide WrongSide (Setter a) = refl
or_assoc WrongSide WrongSide (Element a b) = refl
or_assoc WrongSide WrongSide (Length a) = refl
or_assoc WrongSide WrongSide (Property a b) = refl
or_assoc WrongSide (Slot a b) z = refl
or_assoc WrongSide (Method a b) z = refl
or_assoc WrongSide (Getter a) z = refl
or_assoc WrongSide (Setter a) z = refl
or_assoc WrongSide (Element a b) z = refl
or_assoc WrongSide (Length a) z = refl
or_assoc WrongSide (Property a b) z = refl
or_assoc (Slot a b) y z = refl
or_assoc (Method a b) y z = refl
or_assoc (Getter a) y z = refl
or_assoc (Setter a) y z = refl
or_assoc (Element a b) y z = refl
or_assoc (Length a) y z = refl
or_assoc (Property a b) y z = refl

-- what is found first ends the search
pub hit_first : (x y : Found) → is_hit x ≡ true → or_next x y ≡ x
hit_first Missing y e = cc
hit_first WrongSide y e = cc
hit_first (Slot a b) y e = refl
hit_first (Method a b) y e = refl
hit_first (Getter a) y e = refl
hit_first (Setter a) y e = refl
hit_first (Element a b) y e = refl
hit_first (Length a) y e = refl
hit_first (Property a b) y e = refl

pub or_missing : (x : Found) → or_next x Missing ≡ x
or_missing Missing = refl
or_missing WrongSide = refl
or_missing (Slot a b) = refl
or_missing (Method a b) = refl
or_missing (Getter a) = refl
or_missing (Setter a) = refl
or_missing (Element a b) = refl
or_missing (Length a) = refl
or_missing (Property a b) = refl

-- two lists of candidates
pub answer_append : (l : LinkedFile) (h : Heap) (n : Name) (s : Skip) (xs ys : List Candidate) → answer_of_search l h n s (xs ++ ys) ≡ or_next (answer_of_search l h n s xs) (answer_of_search l h n s ys)
answer_append l h n s [] ys = ap (λ f. or_next f (answer_of_search l h n s ys)) (sym (answer_none l h n s))
answer_append l h n s (x ∷ xs) ys =
    answer_more l h n s x (xs ++ ys)
    ∙ ap (or_next (one l h n s x)) (answer_append l h n s xs ys)
    ∙ sym (or_assoc (one l h n s x) (answer_of_search l h n s xs) (answer_of_search l h n s ys))
    ∙ ap (λ f. or_next f (answer_of_search l h n s ys)) (sym (answer_more l h n s x xs))

-- a search that goes on, and one that has found
pub goes_on : (l : LinkedFile) (h : Heap) (n : Name) (s : Skip) (xs ys : List Candidate) (x y r : Found) → x ≡ answer_of_search l h n s xs → y ≡ answer_of_search l h n s ys → r ≡ or_next x y → r ≡ answer_of_search l h n s (xs ++ ys)
goes_on l h n s xs ys x y r ex ey er = er ∙ ap (or_next x) ey ∙ ap (λ f. or_next f (answer_of_search l h n s ys)) ex ∙ sym (answer_append l h n s xs ys)

pub ends : (l : LinkedFile) (h : Heap) (n : Name) (s : Skip) (xs ys : List Candidate) (x : Found) → x ≡ answer_of_search l h n s xs → is_hit x ≡ true → x ≡ answer_of_search l h n s (xs ++ ys)
ends l h n s xs ys x ex hit = sym (hit_first x (answer_of_search l h n s ys) hit) ∙ ap (λ f. or_next f (answer_of_search l h n s ys)) ex ∙ sym (answer_append l h n s xs ys)

-- a search that passes over nothing finds something exactly where some candidate fits
pub nothing_skipped : (l : LinkedFile) (h : Heap) (n : Name) (cs : List Candidate) → is_hit (answer_of_search l h n Nothing cs) ≡ list_any (fits l h n) cs
nothing_skipped l h n [] = ap is_hit (answer_none l h n Nothing)
nothing_skipped l h n (c ∷ cs) = ap is_hit (answer_more l h n Nothing c cs) ∙ go (fits l h n c) (is_skipped Nothing c) (never c) (nothing_skipped l h n cs)
  where
    never_member : (m : Member) → passes_over Nothing m ≡ false
    never_member (members.Slot s c) = refl
    never_member (members.Method m) = refl
    never_member (members.Getter m) = refl
    never_member (members.Setter m) = refl

    never : (c : Candidate) → is_skipped Nothing c ≡ false
    never (OfTrait x p t) = never_member t.declared.member
    never (OfLength o) = refl
    never (OfElement o k) = refl
    never (OfProperty o n v) = refl

    rest : Found
    rest = answer_of_search l h n Nothing cs

    go : (f k : Bool) → k ≡ false → is_hit rest ≡ list_any (fits l h n) cs → is_hit (or_next (cond f (cond k WrongSide (found_candidate l c)) Missing) rest) ≡ (f || list_any (fits l h n) cs)
    go false k e ih = ih
    go true true e ih = cc
    go true false e ih = ap is_hit (hit_found l c rest) ∙ is_found l c
