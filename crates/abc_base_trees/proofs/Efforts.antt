-- A mark makes what is left to do smaller.
use Rattle.std.proofs.Common.{◌≡◌, ℕ, zero, suc, ◌+◌, ◌<◌, ◌≤◌, List, [], ◌∷◌, Bool, true, false, length, get_or, refl, sym, ◌∙◌, arith, true≢false, slice_get, Some, None, ◌⊎◌, inl, inr, subst}
use Rattle.std.proofs.lemmas.Bool.{cases_lt}
use Rattle.std.proofs.lemmas.List.{get_or_past}
use Rattle.std.proofs.lemmas.Option.{get_or_from_slice_get}
use Rattle.std.proofs.Math.ListN.{set, length-set}
use Rattle.abc_base_graphs.specs.Graph.{leads_to}
use Rattle.abc_base_trees.specs.Effort.{effort_unmarked}

pub below_zero : (x : ℕ) → x < 0 → ⊥
below_zero x lt = omega arith

zero_suc : (n : ℕ) → 0 ≡ suc n → ⊥
zero_suc n e = omega arith

pub mark_less : (graph : List (List ℕ)) (marks : List Bool) (x : ℕ) → length marks ≡ length graph → x < length graph → get_or marks x true ≡ false → effort_unmarked graph (set marks x true) + (2 + length (leads_to graph x)) ≡ effort_unmarked graph marks
mark_less [] marks x len lt e = absurd (below_zero x lt)
mark_less (xs ∷ graph) [] x len lt e = absurd (zero_suc (length graph) len)
mark_less (xs ∷ graph) (true ∷ marks) zero len lt e = absurd (true≢false e)
mark_less (xs ∷ graph) (false ∷ marks) zero len lt e = omega arith
mark_less (xs ∷ graph) (true ∷ marks) (suc x) len lt e = mark_less graph marks x (omega arith) (omega arith) e
mark_less (xs ∷ graph) (false ∷ marks) (suc x) len lt e = let h = mark_less graph marks x (omega arith) (omega arith) e in omega arith

-- entering a node, which leaves it to be left and those that it leads to to be entered
pub entered : (graph : List (List ℕ)) (marks : List Bool) (x n m : ℕ) → length marks ≡ length graph → x < length graph → get_or marks x true ≡ false → n ≡ length (leads_to graph x) + suc m → effort_unmarked graph (set marks x true) + n ≤ effort_unmarked graph marks + m
entered graph marks x n m len lt e is = let h = mark_less graph marks x len lt e in omega arith

pub marked_length : (graph : List (List ℕ)) (marks : List Bool) (x : ℕ) → length marks ≡ length graph → length (set marks x true) ≡ length graph
marked_length graph marks x e = length-set marks x true ∙ e

pub no_mark : (marks : List Bool) (i : ℕ) → slice_get marks i ≡ None → true ≡ get_or marks i true
no_mark [] i e = refl
no_mark (x ∷ xs) zero e = cc
no_mark (x ∷ xs) (suc i) e = no_mark xs i e

pub a_mark : (marks : List Bool) (i : ℕ) (x : Bool) → slice_get marks i ≡ Some x → x ≡ get_or marks i true
a_mark marks i x e = sym (get_or_from_slice_get marks i x true e)

pub unset_within : (marks : List Bool) (i : ℕ) → get_or marks i true ≡ false → i < length marks
unset_within marks i e = go (cases_lt i (length marks))
  where
    go : (i < length marks) ⊎ (length marks ≤ i) → i < length marks
    go (inl lt) = lt
    go (inr le) = absurd (true≢false (sym (get_or_past marks i true le) ∙ e))

pub unmarked_within : (marks : List Bool) (i : ℕ) → false ≡ get_or marks i true → i < length marks
unmarked_within marks i e = unset_within marks i (sym e)

pub entered_less : (graph : List (List ℕ)) (marks marks2 : List Bool) (x n m : ℕ) → length marks ≡ length graph → false ≡ get_or marks x true → marks2 ≡ set marks x true → n ≡ length (leads_to graph x) + suc m → effort_unmarked graph marks2 + n ≤ effort_unmarked graph marks + m
entered_less graph marks marks2 x n m len fresh set_is is =
    let within : x < length marks = unset_within marks x (sym fresh) in
    let lt : x < length graph = omega arith in
    subst (λ ms. effort_unmarked graph ms + n ≤ effort_unmarked graph marks + m) (sym set_is) (entered graph marks x n m len lt (sym fresh) is)
