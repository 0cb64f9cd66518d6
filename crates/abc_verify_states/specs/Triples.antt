-- Three lists of one length, by what holds of each three elements.
use Rattle.std.specs.Prelude.{◌≡◌, false, List, [], ◌∷◌}
use Rattle.abc_link_names.specs.Kinds.{IsJoin}
use Rattle.abc_link_names.specs.Linked.{LinkedFile}
use Rattle.abc_link_names.specs.declared.types.Kind.TheVariants as kinds
use Rattle.abc_verify_typing.specs.declared.state.Scope.{Scope}
use Rattle.abc_verify_typing.specs.declared.state.State.{State}

abbrev pub Each3 : {X : Type 0} → (X → X → X → Type 0) → List X → List X → List X → Type 0
Each3 R [] [] [] = Unit {0}
Each3 R (x ∷ xs) (y ∷ ys) (z ∷ zs) = R x y z × Each3 R xs ys zs
Each3 R xs ys zs = ⊥

-- the join of the kinds, with the flag of both
pub record IsJoinScope (p : LinkedFile) (a b j : Scope) : Type 0 where
  pub kind : IsJoin p a.kind b.kind j.kind
  pub flag : j.is_with ≡ a.is_with
  pub same : a.is_with ≡ b.is_with

-- kind by kind the join of two states
pub record JoinsState (p : LinkedFile) (a b j : State) : Type 0 where
  pub stack : Each3 (IsJoin p) a.stack b.stack j.stack
  pub scopes : Each3 (IsJoinScope p) a.scopes b.scopes j.scopes
  pub locals : Each3 (IsJoin p) a.locals b.locals j.locals

-- a scope that stands where none is
abbrev pub no_scope : Scope
no_scope = record { kind = kinds.Any; is_with = false }
