-- How far a state can rise.
use Rattle.std.specs.Prelude.{◌≡◌, ℕ, suc, ◌+◌, ◌*◌, ◌<◌, List, [], ◌∷◌, length, ◌⊎◌}
use Rattle.abc_verify_typing.specs.Lists.{Each2}
use Rattle.abc_verify_typing.specs.Height.{height}
use Rattle.abc_link_names.specs.Linked.{LinkedFile}
use Rattle.abc_verify_typing.specs.Routines.{Routine}
use Rattle.abc_verify_typing.specs.declared.state.Scope.{Scope}
use Rattle.abc_verify_typing.specs.declared.state.State.{State}

abbrev pub tally : {X : Type 0} → (X → ℕ) → List X → ℕ
tally f [] = 0
tally f (x ∷ xs) = f x + tally f xs

abbrev pub scope_height : ℕ → Scope → ℕ
scope_height n x = height n x.kind

-- one more than there are layouts
abbrev pub layouts : LinkedFile → ℕ
layouts p = suc (length p.parts)

-- over so many layouts
abbrev pub rank_of_state : ℕ → State → ℕ
rank_of_state n s = tally (height n) s.stack + (tally (scope_height n) s.scopes + tally (height n) s.locals)

abbrev pub top_rank : ℕ → Routine → ℕ
top_rank n m = (n + 2) * (m.max_stack + (m.scope_size + m.local_count))

-- the least list above two, which is the first or has less to rise
pub record ListJoined {X : Type 0} (R : X → X → Type 0) (f : X → ℕ) (xs ys js : List X) : Type 0 where
  pub left : Each2 R xs js
  pub right : Each2 R ys js
  pub least : (ks : List X) → Each2 R xs ks → Each2 R ys ks → Each2 R js ks
  pub rises : (js ≡ xs) ⊎ (tally f js < tally f xs)

pub record ItemJoined {X : Type 0} (R : X → X → Type 0) (f : X → ℕ) (x y j : X) : Type 0 where
  pub left : R x j
  pub right : R y j
  pub least : (k : X) → R x k → R y k → R j k
  pub rises : (j ≡ x) ⊎ (f j < f x)
