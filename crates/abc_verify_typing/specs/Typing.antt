-- Typings, and what can be derived (profile: docs/VERIFYING.md, "States" and "Typings").
use Rattle.std.specs.Prelude.{◌≡◌, ℕ, List, [], ◌∷◌, ◌++◌, Option, Some, None, length, take, replicate, ◌⊎◌}
use Rattle.abc_verify_typing.specs.Lists.{Each2}
use Rattle.abc_link_names.specs.declared.types.Kind.TheVariants.{Undef}
use Rattle.abc_link_names.specs.Kinds.{IsAtMost}
use Rattle.abc_link_names.specs.Linked.{LinkedFile}
use Rattle.abc_verify_typing.specs.Routines.{Routine}
use Rattle.abc_verify_typing.specs.declared.state.Scope.{Scope}
use Rattle.abc_verify_typing.specs.declared.state.State.{State}
use Rattle.abc_verify_typing.specs.declared.rule.VerifyRule.{VerifyRule}
use Rattle.abc_verify_typing.specs.declared.rule.VerifyRule.TheVariants.{Merge}
use Rattle.abc_verify_typing.specs.Rules.{broken, broken_early, follows}

pub record ScopeLe (p : LinkedFile) (a b : Scope) : Type 0 where
  pub kind : IsAtMost p a.kind b.kind
  pub flag : a.is_with ≡ b.is_with

-- one state is at most another
pub record StateLe (p : LinkedFile) (s t : State) : Type 0 where
  pub stack : Each2 (IsAtMost p) s.stack t.stack
  pub scopes : Each2 (ScopeLe p) s.scopes t.scopes
  pub locals : Each2 (IsAtMost p) s.locals t.locals

abbrev pub HasOneFlag : Scope → Scope → Type 0
HasOneFlag a b = a.is_with ≡ b.is_with

pub record HasOneShape (s t : State) : Type 0 where
  pub stack : length s.stack ≡ length t.stack
  pub scopes : Each2 HasOneFlag s.scopes t.scopes
  pub locals : length s.locals ≡ length t.locals

-- what a call fills, and then undefined
abbrev pub entry : Routine → State
entry m = record { stack = []; scopes = []; locals = take m.local_count (m.filled ++ replicate m.local_count Undef) }

abbrev pub In : {X : Type 0} → X → List X → Type 0
In x [] = ⊥
In x (y ∷ ys) = (x ≡ y) ⊎ In x ys

-- The state n, at index t, follows from the state s, at index i: by the instruction there, or by a handler that covers it.
abbrev pub Follows : LinkedFile → Routine → ℕ → State → ℕ → State → Type 0
Follows p m i s t n = In (t, n) (follows p m i s)

-- The state breaks no rule at the index i.
abbrev pub IsFine : LinkedFile → Routine → ℕ → State → Type 0
IsFine p m i s = broken p m i s ≡ None

-- an assignment of states
pub record IsTyping (p : LinkedFile) (m : Routine) (states : ℕ → Option State) : Type 0 where
  pub start : (u : State) × (states 0 ≡ Some u) × StateLe p (entry m) u
  pub fine : (i : ℕ) (s : State) → states i ≡ Some s → IsFine p m i s
  pub follows : (i : ℕ) (s : State) (t : ℕ) (n : State) → states i ≡ Some s → Follows p m i s t n → (u : State) × (states t ≡ Some u) × StateLe p n u

-- the least state above two of one shape
pub record IsJoinState (p : LinkedFile) (s t j : State) : Type 0 where
  pub left : StateLe p s j
  pub right : StateLe p t j
  pub least : (u : State) → StateLe p s u → StateLe p t u → StateLe p j u

-- what every order of work may come to
pub data Derivable (p : LinkedFile) (m : Routine) : ℕ → State → Type 0 where
  Entry : Derivable p m 0 (entry m)
  Next : (i : ℕ) (s : State) (t : ℕ) (n : State) → Derivable p m i s → IsFine p m i s → Follows p m i s t n → Derivable p m t n
  Join : (i : ℕ) (s t j : State) → Derivable p m i s → Derivable p m i t → IsJoinState p s t j → Derivable p m i j

-- a derivable state breaks the rule first, or two can't be merged, one of which breaks none before Merge
pub data Refutes (p : LinkedFile) (m : Routine) (i : ℕ) : VerifyRule → Type 0 where
  Broken : (s : State) (r : VerifyRule) → Derivable p m i s → broken p m i s ≡ Some r → Refutes p m i r
  Unmerged : (s t : State) → Derivable p m i s → Derivable p m i t → (HasOneShape s t → ⊥) → broken_early p m i s ≡ None → Refutes p m i Merge

-- The method has a typing.
abbrev pub HasTyping : LinkedFile → Routine → Type 0
HasTyping p m = (states : ℕ → Option State) × IsTyping p m states

-- by some place and rule
abbrev pub IsRefuted : LinkedFile → Routine → Type 0
IsRefuted p m = (i : ℕ) × ((r : VerifyRule) × Refutes p m i r)
