-- What stands at a place of a list.
use Rattle.std.proofs.Common.{◌≡◌, ℕ, zero, suc, ◌<◌, List, [], ◌∷◌, Some, None, length, get_or, slice_get, refl, ap, arith}

-- what is read at a place with itself as default stands there
pub there : {X : Type 0} (xs : List X) (i : ℕ) (x : X) → i < length xs → get_or xs i x ≡ x → slice_get xs i ≡ Some x
there [] i x h e = absurd (omega arith)
there (y ∷ ys) zero x h e = ap Some e
there (y ∷ ys) (suc i) x h e = there ys i x (omega arith) e
