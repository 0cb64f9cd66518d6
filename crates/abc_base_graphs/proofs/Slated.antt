-- What stands on a slate after a turn and after a write.
use Rattle.std.proofs.Common.{◌≡◌, ℕ, zero, suc, ◌+◌, ◌-◌, ◌≤◌, List, [], ◌∷◌, ◌++◌, Some, None, cond, ne_eqb, eq-eqb, map, length, get_or, set, take, replicate, refl, sym, ap, ◌∙◌, subst, arith, All}
use Rattle.std.specs.Prelude.{slice_get}
use Rattle.std.specs.declared.option.Option.{Option}
use Rattle.std.proofs.lemmas.List.{get_or-map, length-map, length-replicate, map-set}
use Rattle.std.proofs.lemmas.Option.{get_or_from_slice_get, slice_get_within}
use Rattle.std.proofs.lemmas.List.Elements.{All-head, All-tail, All-replicate, All-set, All-weaker}
use Rattle.abc_base_graphs.specs.Marks.{blank, mark_of_turn}
use Rattle.abc_base_graphs.specs.declared.slate.Mark.{Mark}

-- so many values, where there was none
pub resized : {X : Type 0} (n : ℕ) (m : X) (old new : List X) → old ≡ [] → new ≡ take n old ++ replicate (n - length old) m → new ≡ replicate n m
resized {X} n m old new none e = e ∙ ap (λ (l : List X). take n l ++ replicate (n - length l) m) none ∙ go n
  where
    go : (k : ℕ) → take k [] ++ replicate (k - 0) m ≡ replicate k m
    go zero = refl
    go (suc k) = let z : suc k - 0 ≡ suc k = omega arith in ap (λ j. replicate j m) z

pub as_many : (n t : ℕ) (marks : List Mark) → marks ≡ replicate n blank → length (map (mark_of_turn t) marks) ≡ n
as_many n t marks e = length-map marks (mark_of_turn t) ∙ ap length e ∙ length-replicate n blank

pub none_later : (n t : ℕ) (marks : List Mark) → marks ≡ replicate n blank → All (λ x. x.turn ≤ t) marks
none_later n t marks e = subst (All (λ (x : Mark). x.turn ≤ t)) (sym e) (All-replicate (λ (x : Mark). x.turn ≤ t) n blank (omega arith))

-- ---- what is read

pub seen : (marks : List Mark) (t p : ℕ) (m : Mark) (o : Option ℕ) → slice_get marks p ≡ Some m → o ≡ mark_of_turn t m → o ≡ get_or (map (mark_of_turn t) marks) p None
seen marks t p m o e is = is ∙ ap (mark_of_turn t) (sym (get_or_from_slice_get marks p m blank e)) ∙ sym (get_or-map (mark_of_turn t) marks p blank None (slice_get_within marks p m e))

pub unseen : (marks : List Mark) (t p : ℕ) → slice_get marks p ≡ None → None ≡ get_or (map (mark_of_turn t) marks) p None
unseen [] t p e = refl
unseen (m ∷ marks) t zero e = cc
unseen (m ∷ marks) t (suc p) e = unseen marks t p e

-- ---- a turn

pub later : (marks : List Mark) (t : ℕ) → All (λ x. x.turn ≤ t) marks → All (λ x. x.turn ≤ t + 1) marks
later marks t all = All-weaker (λ (x : Mark). x.turn ≤ t) (λ (x : Mark). x.turn ≤ t + 1) (λ x le. omega arith) marks all

blank_after : (marks : List Mark) (t : ℕ) → All (λ x. x.turn ≤ t) marks → map (mark_of_turn (t + 1)) marks ≡ replicate (length marks) None
blank_after [] t all = refl
blank_after (m ∷ marks) t all =
    let le = All-head (λ (x : Mark). x.turn ≤ t) m marks all in
    let more = blank_after marks t (All-tail (λ (x : Mark). x.turn ≤ t) m marks all) in
    ap (λ b. cond b (Some m.number) None ∷ map (mark_of_turn (t + 1)) marks) (ne_eqb m.turn (t + 1) (λ e. omega (arith, e)))
    ∙ ap (λ (l : List (Option ℕ)). None ∷ l) more

pub wiped : (marks : List Mark) (t : ℕ) → All (λ x. x.turn ≤ t) marks → map (mark_of_turn (t + 1)) marks ≡ replicate (length (map (mark_of_turn t) marks)) None
wiped marks t all = blank_after marks t all ∙ ap (λ n. replicate n None) (sym (length-map marks (mark_of_turn t)))

-- ---- a write

pub written : (marks new : List Mark) (t place number : ℕ) → new ≡ set marks place (record { turn = t; number = number }) → map (mark_of_turn t) new ≡ set (map (mark_of_turn t) marks) place (Some number)
written marks new t place number e =
    ap (map (mark_of_turn t)) e
    ∙ map-set (mark_of_turn t) marks place (record { turn = t; number = number })
    ∙ ap (λ b. set (map (mark_of_turn t) marks) place (cond b (Some number) None)) (eq-eqb t t refl)

pub still : (marks new : List Mark) (t place number : ℕ) → All (λ x. x.turn ≤ t) marks → new ≡ set marks place (record { turn = t; number = number }) → All (λ x. x.turn ≤ t) new
still marks new t place number all e = subst (All (λ (x : Mark). x.turn ≤ t)) (sym e) (All-set (λ (x : Mark). x.turn ≤ t) marks place (record { turn = t; number = number }) (omega arith) all)
