-- How often methods are named, one name after the other.
use Rattle.std.proofs.Common.{◌≡◌, ℕ, ◌+◌, ◌<◌, ◌≤◌, ◌⊎◌, inl, inr, Bool, true, false, List, length, get_or, nat_eq, eq-eqb, eqb-true, take, replicate, refl, sym, ap, subst, ◌∙◌, arith, get_or-set_other, get_or-set_same}
use Rattle.std.proofs.Math.ListN.{set, length-set}
use Rattle.std.proofs.lemmas.Bool.{cases_eq}
use Rattle.std.proofs.lemmas.List.{get_or-replicate, length-replicate, take_all, length-take}
use Rattle.std.proofs.lemmas.List.Sums.{count_by_more_no, count_by_more_yes, count_by-le-length}
use Rattle.abc_link_names.specs.Methods.{times_named}
use Rattle.abc_link_rules.specs.Times.{AreTimes}

differ : (m n : ℕ) → (m ≡ n → ⊥) → nat_eq m n ≡ false
differ m n ne = at (nat_eq m n) refl
  where
    at : (c : Bool) → nat_eq m n ≡ c → nat_eq m n ≡ false
    at true q = absurd (ne (eqb-true m n q))
    at false q = q

-- a method was counted at most as often as names were gone over
pub few_times : (times methods : List ℕ) (place count m : ℕ) → AreTimes times (take place methods) count → place ≤ length methods → m < count → get_or times m 0 ≤ place
few_times times methods place count m a le lt =
    let e = a.counts m lt in
    let h = count_by-le-length (nat_eq m) (take place methods) in
    let l = length-take place methods in
    omega (arith, e, h, l)

pub counted : (times new methods : List ℕ) (place count m : ℕ) → place < length methods → m ≡ get_or methods place 0 → m < count → AreTimes times (take place methods) count → new ≡ set times m (get_or times m 0 + 1)
    → AreTimes new (take (place + 1) methods) count
counted times new methods place count m lt is low a e = record {
  len = ap length e ∙ length-set times m (get_or times m 0 + 1) ∙ a.len;
  counts = λ n ln. ap (λ (ts : List ℕ). get_or ts n 0) e ∙ go n ln (cases_eq n m);
}
  where
    within : m < length times
    within = let q = a.len in omega arith

    go : (n : ℕ) → n < count → (n ≡ m) ⊎ (n ≡ m → ⊥) → get_or (set times m (get_or times m 0 + 1)) n 0 ≡ times_named n (take (place + 1) methods)
    go n ln (inl q) =
        ap (λ k. get_or (set times m (get_or times m 0 + 1)) k 0) q
        ∙ get_or-set_same times m (get_or times m 0 + 1) 0 within
        ∙ ap (λ k. k + 1) (ap (λ k. get_or times k 0) (sym q) ∙ a.counts n ln)
        ∙ sym (count_by_more_yes (nat_eq n) methods place 0 lt (eq-eqb n (get_or methods place 0) (q ∙ is)))
    go n ln (inr ne) =
        get_or-set_other times m n (get_or times m 0 + 1) 0 ne
        ∙ a.counts n ln
        ∙ sym (count_by_more_no (nat_eq n) methods place 0 lt (differ n (get_or methods place 0) (λ h. ne (h ∙ sym is))))

pub not_counted : (times methods : List ℕ) (place count m : ℕ) → place < length methods → m ≡ get_or methods place 0 → count ≤ m → AreTimes times (take place methods) count → AreTimes times (take (place + 1) methods) count
not_counted times methods place count m lt is high a = record {
  len = a.len;
  counts = λ n ln. a.counts n ln ∙ sym (count_by_more_no (nat_eq n) methods place 0 lt (differ n (get_or methods place 0) (λ h. let q = h ∙ sym is in omega arith)));
}

pub none_counted : (methods : List ℕ) (count : ℕ) → AreTimes (replicate count 0) (take 0 methods) count
none_counted methods count = record { len = length-replicate count 0; counts = λ m lt. get_or-replicate count m 0 0 lt }

pub all_counted : (times methods : List ℕ) (place count : ℕ) → length methods ≤ place → AreTimes times (take place methods) count → AreTimes times methods count
all_counted times methods place count le a = subst (λ (ms : List ℕ). AreTimes times ms count) (take_all place methods le) a
