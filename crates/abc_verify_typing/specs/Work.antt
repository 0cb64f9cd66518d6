-- What the work list keeps: states at the heads alone, and walks between them.
use Rattle.std.specs.Prelude.{◌≡◌, ℕ, zero, suc, ◌+◌, ◌≤◌, List, [], ◌∷◌, Bool, true, false, cond, eqb, Option, Some, None, length, slice_get, ◌⊎◌}
use Rattle.abc_link_names.specs.Linked.{LinkedFile}
use Rattle.abc_verify_typing.specs.Routines.{Routine}
use Rattle.abc_verify_typing.specs.declared.state.State.{State}
use Rattle.abc_verify_typing.specs.Rules.{follows}
use Rattle.abc_verify_typing.specs.Typing.{StateLe, IsFine, In, Follows, entry, Derivable}

abbrev pub flat_state : {X : Type 0} → Option (Option X) → Option X
flat_state None = None
flat_state (Some o) = o

-- the state of a place
abbrev pub at : List (Option State) → ℕ → Option State
at states i = flat_state (slice_get states i)

abbrev pub Landed : LinkedFile → List (Option State) → ℕ → State → Type 0
Landed p states t n = (u : State) × (at states t ≡ Some u) × StateLe p n u

-- from a place on no rule is broken, until all that follows has landed
pub data RunsOn (p : LinkedFile) (m : Routine) (head : ℕ → Bool) (states : List (Option State)) : ℕ → State → Type 0 where
  Halts : (i : ℕ) (s : State) → IsFine p m i s → ((t : ℕ) (n : State) → Follows p m i s t n → Landed p states t n) → RunsOn p m head states i s
  Goes : (i : ℕ) (s n : State) → IsFine p m i s → head (suc i) ≡ false → ((t : ℕ) (u : State) → Follows p m i s t u → Landed p states t u ⊎ ((t ≡ suc i) × (u ≡ n))) → RunsOn p m head states (suc i) n → RunsOn p m head states i s

-- a place without a state weighs most
abbrev pub weight : (State → ℕ) → ℕ → Option State → ℕ
weight rank top None = suc top
weight rank top (Some s) = rank s

abbrev pub total_rank : (State → ℕ) → ℕ → List (Option State) → ℕ
total_rank rank top [] = 0
total_rank rank top (o ∷ os) = weight rank top o + total_rank rank top os

-- states only rise, what changed is to be looked at, and no work is lost
pub record Advances (p : LinkedFile) (rank : State → ℕ) (top : ℕ) (head : ℕ → Bool) (a : List (Option State)) (v : List ℕ) (b : List (Option State)) (w : List ℕ) : Type 0 where
  pub long : length b ≡ length a
  pub rises : (i : ℕ) (s : State) → at a i ≡ Some s → (u : State) × (at b i ≡ Some u) × StateLe p s u
  pub marks : (i : ℕ) → (at b i ≡ at a i) ⊎ (In i w × (head i ≡ true))
  pub keeps : (i : ℕ) → In i v → In i w
  pub falls : total_rank rank top b + length w ≤ total_rank rank top a + length v

abbrev pub AreDerived : LinkedFile → Routine → List (Option State) → Type 0
AreDerived p m states = (i : ℕ) (s : State) → at states i ≡ Some s → Derivable p m i s

-- only heads have a state
abbrev pub AtHeads : (ℕ → Bool) → List (Option State) → Type 0
AtHeads head states = (i : ℕ) → head i ≡ false → at states i ≡ None

-- each state at a head runs on or has work left
pub record IsUnderWay (p : LinkedFile) (m : Routine) (head : ℕ → Bool) (states : List (Option State)) (work : List ℕ) : Type 0 where
  pub long : length states ≡ length m.code
  pub start : Landed p states 0 (entry m)
  pub settled : (i : ℕ) (s : State) → at states i ≡ Some s → In i work ⊎ RunsOn p m head states i s
  pub derived : AreDerived p m states
  pub heads : AtHeads head states

-- the states of all places: at a head its own, elsewhere what follows the place before
abbrev pub follow_at : ℕ → List (ℕ × State) → Option State
follow_at t [] = None
follow_at t (x ∷ xs) = cond (eqb x.0 t) (Some x.1) (follow_at t xs)

abbrev pub state_onward : LinkedFile → Routine → ℕ → Option State → Option State
state_onward p m i None = None
state_onward p m i (Some s) = follow_at (suc i) (follows p m i s)

abbrev pub state_on_walk : LinkedFile → Routine → (ℕ → Bool) → List (Option State) → ℕ → Option State
state_on_walk p m head states zero = at states zero
state_on_walk p m head states (suc i) = cond (head (suc i)) (at states (suc i)) (state_onward p m i (state_on_walk p m head states i))
