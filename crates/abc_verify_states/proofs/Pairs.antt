-- Two lists, pair by pair.
use Rattle.std.proofs.Common.{◌≡◌, ℕ, zero, suc, ◌+◌, ◌≤◌, ◌<◌, ◌↔◌, IsTrue, Bool, true, false, List, [], ◌∷◌, Some, None, length, take, get_or, refl, sym, ap, ◌∙◌, subst, arith}
use Rattle.std.specs.Prelude.{slice_get}
use Rattle.std.proofs.lemmas.Option.{get_or_from_slice_get}
use Rattle.abc_verify_typing.specs.Lists.{Each2}
use Rattle.abc_verify_typing.specs.Typing.{HasOneFlag, HasOneShape}
use Rattle.abc_verify_typing.specs.declared.state.Scope.{Scope}
use Rattle.abc_verify_typing.specs.declared.state.State.{State}
use Rattle.abc_verify_typing.proofs.Lists.{Each2-length}

pub found : {X : Type 0} (xs : List X) (k : ℕ) (d x : X) → Some x ≡ slice_get xs k → x ≡ get_or xs k d
found xs k d x e = sym (get_or_from_slice_get xs k x d (sym e))

-- a value that is read is the one that stands there
pub there : {X : Type 0} (xs : List X) (k : ℕ) (d x : X) → k < length xs → get_or xs k x ≡ x → x ≡ get_or xs k d
there [] k d x h e = absurd (omega arith)
there (y ∷ xs) zero d x h e = sym e
there (y ∷ xs) (suc k) d x h e = there xs k d x (omega arith) e

pub clash : (b : Bool) → b ≡ true → b ≡ false → ⊥
clash b p q = absurd cc

-- what holds of two values holds of what they are
pub tested_along : {X : Type 0} (R : X → X → Type 0) (t : Bool) (x y u v : X) → x ≡ u → y ≡ v → (IsTrue t ↔ R x y) → IsTrue t ↔ R u v
tested_along {X} R t x y u v p q h = subst (λ (w : X). IsTrue t ↔ R u w) q (subst (λ (w : X). IsTrue t ↔ R w y) p h)

pub pairs_start : {X : Type 0} (R : X → X → Type 0) (xs ys : List X) → Each2 R (take 0 xs) (take 0 ys)
pairs_start R xs ys = tt

next : {X : Type 0} (R : X → X → Type 0) (xs ys : List X) (k : ℕ) (d : X) → k < length xs → length xs ≡ length ys → Each2 R (take k xs) (take k ys) → R (get_or xs k d) (get_or ys k d) → Each2 R (take (suc k) xs) (take (suc k) ys)
next R [] ys k d lt e h r = absurd (omega arith)
next R (x ∷ xs) [] k d lt e h r = absurd (omega arith)
next R (x ∷ xs) (y ∷ ys) zero d lt e h r = (r, tt)
next R (x ∷ xs) (y ∷ ys) (suc k) d lt e h r = (h.0, next R xs ys k d (omega arith) (omega arith) h.1 r)

pub pairs_next : {X : Type 0} (R : X → X → Type 0) (xs ys : List X) (k : ℕ) (d : X) → k < length xs → length xs ≡ length ys → Each2 R (take k xs) (take k ys) → R (get_or xs k d) (get_or ys k d) → Each2 R (take (k + 1) xs) (take (k + 1) ys)
pairs_next R xs ys k d lt e h r = let z : suc k ≡ k + 1 = omega arith in subst (λ (n : ℕ). Each2 R (take n xs) (take n ys)) z (next R xs ys k d lt e h r)

take_whole : {X : Type 0} (xs : List X) (k : ℕ) → length xs ≤ k → take k xs ≡ xs
take_whole [] zero h = refl
take_whole [] (suc k) h = refl
take_whole (x ∷ xs) zero h = absurd (omega arith)
take_whole {X} (x ∷ xs) (suc k) h = ap (λ (ys : List X). x ∷ ys) (take_whole xs k (omega arith))

pub pairs_all : {X : Type 0} (R : X → X → Type 0) (xs ys : List X) (k : ℕ) → length xs ≤ k → length xs ≡ length ys → Each2 R (take k xs) (take k ys) → Each2 R xs ys
pairs_all {X} R xs ys k le e h = subst (λ (us : List X). Each2 R us ys) (take_whole xs k le) (subst (λ (us : List X). Each2 R (take k xs) us) (take_whole ys k (omega arith)) h)

pub pairs_at : {X : Type 0} (R : X → X → Type 0) (xs ys : List X) (k : ℕ) (d : X) → k < length xs → Each2 R xs ys → R (get_or xs k d) (get_or ys k d)
pairs_at R [] ys k d lt h = absurd (omega arith)
pairs_at R (x ∷ xs) [] k d lt h = absurd h
pairs_at R (x ∷ xs) (y ∷ ys) zero d lt h = h.0
pairs_at R (x ∷ xs) (y ∷ ys) (suc k) d lt h = pairs_at R xs ys k d (omega arith) h.1

-- ---- shapes

pub shape_scopes : (a b : State) → HasOneShape a b → length a.scopes ≡ length b.scopes
shape_scopes a b h = Each2-length HasOneFlag a.scopes b.scopes h.scopes

pub shape_back : (a b : State) → HasOneShape a b → HasOneShape b a
shape_back a b h = record { stack = sym h.stack; scopes = back a.scopes b.scopes h.scopes; locals = sym h.locals }
  where
    back : (xs ys : List Scope) → Each2 HasOneFlag xs ys → Each2 HasOneFlag ys xs
    back [] [] h = tt
    back (x ∷ xs) (y ∷ ys) h = (sym h.0, back xs ys h.1)
    back [] (y ∷ ys) h = absurd h
    back (x ∷ xs) [] h = absurd h
