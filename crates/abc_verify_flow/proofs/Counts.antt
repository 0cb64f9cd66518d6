-- How many walks there are.
use Rattle.std.proofs.Common.{◌≡◌, ◌+◌, ◌-◌, ◌^◌, ◌<◌, ◌≤◌, min, ℕ, zero, suc, List, [], ◌∷◌, Option, Some, None, length, set, replicate, take, refl, sym, ap, ◌∙◌, subst, arith, ◌⊎◌, inl, inr}
use Rattle.std.specs.Prelude.{Bool, true, Result, Ok, Err, MatchResult}
use Rattle.std.proofs.Math.Nat.{min-le_left}
use Rattle.std.proofs.lemmas.List.{length-replicate}
use Rattle.abc_link_names.specs.Linked.{IsLinkedFile, LinkedFile}
use Rattle.abc_verify_typing.specs.Routines.{Routine}
use Rattle.abc_verify_typing.specs.Typing.{Entry, HasTyping, In, entry}
use Rattle.abc_verify_typing.specs.Work.{at, total_rank, state_on_walk}
use Rattle.abc_verify_typing.specs.Rank.{layouts, rank_of_state, top_rank}
use Rattle.abc_verify_typing.specs.declared.state.State.{State}
use Rattle.abc_verify_typing.proofs.Turn.{at-set_same}
use Rattle.abc_verify_flow.specs.Waits.{IsPlaceAdded, IsLowestTaken}
use Rattle.abc_verify_flow.specs.Walking.{HasTurned, IsForward, IsSettled, RefusedBy, count_known, is_head, most_walks}
use Rattle.abc_verify_flow.specs.declared.step.Refusal.{Refusal}
use Rattle.abc_verify_flow.proofs.Places.{merge_first}

-- what the states can rise yet and the walks that they allow are all that states can rise
all_rises : (rank : State → ℕ) (top : ℕ) (os : List (Option State)) → total_rank rank top (replicate (length os) None) ≤ total_rank rank top os + most_walks rank top os
all_rises rank top [] = omega arith
all_rises rank top (None ∷ os) = let r = all_rises rank top os in omega (arith, r)
all_rises rank top (Some s ∷ os) = let r = all_rises rank top os in omega (arith, r)

pub few_walks : (rank : State → ℕ) (top : ℕ) (os : List (Option State)) (walks n : ℕ) → length os ≡ n → walks + total_rank rank top os ≤ total_rank rank top (replicate n None) → walks ≤ most_walks rank top os
few_walks rank top os walks n e h =
    let r = all_rises rank top os in
    let q : total_rank rank top (replicate (length os) None) ≡ total_rank rank top (replicate n None) = ap (λ (k : ℕ). total_rank rank top (replicate k None)) e in
    omega (arith, r, q, h)

blank_at : (n i : ℕ) → at (replicate n None) i ≡ None
blank_at zero i = refl
blank_at (suc n) zero = refl
blank_at (suc n) (suc i) = blank_at n i

-- the first place gets the state that a method begins with
pub first_rises : (p : LinkedFile) (m : Routine) (heads : List Bool) → IsLinkedFile p → 0 < length m.code → is_head heads 0 ≡ true → total_rank (rank_of_state (layouts p)) (top_rank (layouts p) m) (set (replicate (length m.code) None) 0 (Some (entry m))) + 1 ≤ total_rank (rank_of_state (layouts p)) (top_rank (layouts p) m) (replicate (length m.code) None)
first_rises p m heads linked some head =
    let blank : List (Option State) = replicate (length m.code) None in
    let r = merge_first p m heads blank [] 0 (entry m) linked (blank_at (length m.code) 0)
    (record { long = length-replicate (length m.code) None; derived = λ i u q. absurd (let z = blank_at (length m.code) i in cc) })
    (record { derived = Entry; inside = some; head = head }) in
    let f = r.advances.falls in
    omega (arith, f)

-- one walk more
pub next_most : (walks more : ℕ) → more ≡ min (walks + 1) (2 ^ 64 - 1) → more ≤ walks + 1
next_most walks more e = subst (λ (n : ℕ). n ≤ walks + 1) (sym e) (min-le_left (walks + 1) (2 ^ 64 - 1))

-- what settles a method is a typing of it
pub settled_typing : (p : LinkedFile) (m : Routine) (heads : List Bool) (states : List (Option State)) (r : Result ℕ Refusal) → MatchResult r (λ walks. IsSettled p m heads walks states) (λ e. RefusedBy p m e) → MatchResult r (λ walks. HasTyping p m × IsSettled p m heads walks states) (λ e. RefusedBy p m e)
settled_typing p m heads states (Ok walks) k = ((state_on_walk p m (is_head heads) states, k.typing), k)
settled_typing p m heads states (Err e) k = k

-- ---- where nothing leads back

-- what waits has a state
abbrev pub AllKnown : List (Option State) → List ℕ → Type 0
AllKnown states work = (i : ℕ) → In i work → (s : State) × (at states i ≡ Some s)

-- so many walks were at most one from each place with a state before a place, and only places from there on wait
pub record IsOnce (walks : ℕ) (states : List (Option State)) (work : List ℕ) : Type 0 where
  pub place : ℕ
  pub behind : (i : ℕ) → In i work → place ≤ i
  pub few : walks ≤ count_known (take place states)

known_less : (os : List (Option State)) (i j : ℕ) → i ≤ j → count_known (take i os) ≤ count_known (take j os)
known_less os zero j h = omega arith
known_less [] (suc i) zero h = omega arith
known_less [] (suc i) (suc j) h = omega arith
known_less (o ∷ os) (suc i) zero h = absurd (omega (arith, h))
known_less (None ∷ os) (suc i) (suc j) h = known_less os i j (omega (arith, h))
known_less (Some s ∷ os) (suc i) (suc j) h = let r = known_less os i j (omega (arith, h)) in omega (arith, r)

known_all : (os : List (Option State)) (i : ℕ) → count_known (take i os) ≤ count_known os
known_all os zero = omega arith
known_all [] (suc i) = omega arith
known_all (None ∷ os) (suc i) = known_all os i
known_all (Some s ∷ os) (suc i) = let r = known_all os i in omega (arith, r)

known_none : (i : ℕ) → count_known (take i []) ≡ 0
known_none zero = refl
known_none (suc i) = refl

known_rises : (a c : List (Option State)) (i : ℕ) → ((j : ℕ) (s : State) → at a j ≡ Some s → (u : State) × (at c j ≡ Some u)) → count_known (take i a) ≤ count_known (take i c)
known_rises a c zero h = omega arith
known_rises [] c (suc i) h = omega arith
known_rises (None ∷ a) [] (suc i) h = let r = known_rises a [] i (λ j s e. absurd (let r = h (suc j) s e in let z = r.1 in cc)) in let none = known_none i in omega (arith, r, none)
known_rises (None ∷ a) (None ∷ c) (suc i) h = known_rises a c i (λ j s e. h (suc j) s e)
known_rises (None ∷ a) (Some u ∷ c) (suc i) h = let r = known_rises a c i (λ j s e. h (suc j) s e) in omega (arith, r)
known_rises (Some s ∷ a) [] (suc i) h = absurd (let r = h 0 s refl in let z = r.1 in cc)
known_rises (Some s ∷ a) (None ∷ c) (suc i) h = absurd (let r = h 0 s refl in let z = r.1 in cc)
known_rises (Some s ∷ a) (Some u ∷ c) (suc i) h = let r = known_rises a c i (λ j s e. h (suc j) s e) in omega (arith, r)

known_next : (os : List (Option State)) (i : ℕ) (s : State) → at os i ≡ Some s → count_known (take (suc i) os) ≡ suc (count_known (take i os))
known_next [] i s e = absurd cc
known_next (None ∷ os) zero s e = absurd cc
known_next (Some u ∷ os) zero s e = refl
known_next (None ∷ os) (suc i) s e = known_next os i s e
known_next (Some u ∷ os) (suc i) s e = ap suc (known_next os i s e)

pub once_first : (walks : ℕ) (states : List (Option State)) (work : List ℕ) → walks ≡ 0 → IsOnce walks states work
once_first walks states work none = record { place = 0; behind = λ i h. omega arith; few = omega (arith, none) }

pub known_first : (p : LinkedFile) (m : Routine) (states : List (Option State)) (work : List ℕ) → 0 < length m.code → states ≡ set (replicate (length m.code) None) 0 (Some (entry m)) → IsPlaceAdded 0 [] work → AllKnown states work
known_first p m states work some e added i h = (entry m, go (added.only i h))
  where
    blank : List (Option State)
    blank = replicate (length m.code) None

    long : length blank ≡ length m.code
    long = length-replicate (length m.code) None

    inside : 0 < length blank
    inside = omega (arith, long, some)

    go : (i ≡ 0) ⊎ In i [] → at states i ≡ Some (entry m)
    go (inl q) = ap (at states) q ∙ ap (λ (xs : List (Option State)). at xs 0) e ∙ at-set_same (replicate (length m.code) None) 0 (Some (entry m)) inside
    go (inr k) = absurd k

module _ (p : LinkedFile) (m : Routine) (heads : List Bool) (place : ℕ) (a c : List (Option State)) (old v w : List ℕ) where
  pub known_on : IsLowestTaken place old v → HasTurned p m heads place a v c w → AllKnown a old → AllKnown c w
  known_on taken turned known i h = elim (turned.adds i h) [
    | inr j ↦ (j.0, j.1)
    | inl j ↦ (
        let k = known i (subst (λ (xs : List ℕ). In i xs) (sym taken.is) (inr j)) in
        let r = turned.advances.rises i k.0 k.1 in
        (r.0, r.1))
  ]

  pub once_on : (walks more : ℕ) → more ≤ walks + 1 → IsLowestTaken place old v → HasTurned p m heads place a v c w → AllKnown a old → IsForward m → IsOnce walks a old → IsOnce more c w
  once_on walks more le taken turned known on once =
      let first : In place old = subst (λ (xs : List ℕ). In place xs) (sym taken.is) (inl refl) in
      let here = known place first in
      let there = turned.advances.rises place here.0 here.1 in
      let low = once.behind place first in
      let few = once.few in
      let rises = known_rises a c once.place (λ j s e. let r = turned.advances.rises j s e in (r.0, r.1)) in
      let less = known_less c once.place place low in
      let next = known_next c place there.0 there.1 in
      record {
        place = suc place;
        behind = λ i h. elim (turned.adds i h) [ inl j ↦ (let z = taken.lowest i j in omega (arith, z)) | inr j ↦ (let z = j.2 on in omega (arith, z)) ];
        few = omega (arith, le, few, rises, less, next);
      }

pub once_last : (walks : ℕ) (states : List (Option State)) (work : List ℕ) → IsOnce walks states work → walks ≤ count_known states
once_last walks states work once = let few = once.few in let all = known_all states once.place in omega (arith, few, all)
