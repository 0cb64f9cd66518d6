-- A state flows to a place.
use Rattle.std.proofs.Common.{◌≡◌, ℕ, ◌≤◌, ◌<◌, List, ◌∷◌, Option, Some, None, length, set, sym, subst, arith}
use Rattle.std.specs.Prelude.{Bool, true}
use Rattle.abc_link_names.specs.Linked.{LinkedFile}
use Rattle.abc_verify_typing.specs.Routines.{Routine}
use Rattle.abc_verify_typing.specs.declared.state.State.{State}
use Rattle.abc_verify_typing.specs.Typing.{StateLe, Derivable, Join, IsJoinState}
use Rattle.abc_verify_typing.specs.Work.{at, Landed, weight, Advances, AreDerived}
use Rattle.abc_verify_typing.proofs.Order.{state_self}
use Rattle.abc_verify_typing.proofs.Turn.{advance_self, raise_advances, raise_lands, raise_derives}

-- a state has landed, and all that was known goes on
pub record Reaches (p : LinkedFile) (m : Routine) (rank : State → ℕ) (top : ℕ) (head : ℕ → Bool) (t : ℕ) (n : State) (a : List (Option State)) (v : List ℕ) (c : List (Option State)) (w : List ℕ) : Type 0 where
  pub advances : Advances p rank top head a v c w
  pub landed : Landed p c t n
  pub derived : AreDerived p m c

module _ (p : LinkedFile) (m : Routine) (rank : State → ℕ) (top : ℕ) (head : ℕ → Bool) (a : List (Option State)) (v : List ℕ) (t : ℕ) (n : State) where
  pub merge_same : (old : State) → at a t ≡ Some old → AreDerived p m a → StateLe p n old → Reaches p m rank top head t n a v a v
  merge_same old e d le = record { advances = advance_self p rank top head a v; landed = (old, e, le); derived = d }

  pub merge_joined : (old joined : State) → t < length a → head t ≡ true → at a t ≡ Some old → AreDerived p m a → Derivable p m t n → IsJoinState p old n joined → rank joined < rank old → Reaches p m rank top head t n a v (set a t (Some joined)) (t ∷ v)
  merge_joined old joined h on is d dn j lt =
      record {
        advances = raise_advances p rank top head a v t joined h on (λ o q. let r : o ≡ old = cc in subst (λ x. StateLe p x joined) (sym r) j.left) (subst (λ o. rank joined < weight rank top o) (sym is) lt);
        landed = raise_lands p rank top head a t joined n h j.right;
        derived = raise_derives p m a t joined h d (Join t old n joined (d t old is) dn j);
      }

  pub merge_first : t < length a → head t ≡ true → at a t ≡ None → rank n ≤ top → AreDerived p m a → Derivable p m t n → Reaches p m rank top head t n a v (set a t (Some n)) (t ∷ v)
  merge_first h on e small d dn =
      record {
        advances = raise_advances p rank top head a v t n h on (λ o q. absurd cc) (subst (λ o. rank n < weight rank top o) (sym e) (omega arith));
        landed = raise_lands p rank top head a t n n h (state_self p n);
        derived = raise_derives p m a t n h d dn;
      }
