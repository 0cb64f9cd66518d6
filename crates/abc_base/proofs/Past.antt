-- Reads past the end of a table.
use Rattle.std.proofs.Common.{◌≡◌, ℕ, zero, suc, List, [], ◌∷◌, None, get_or, slice_get, refl}

pub past_end : {A : Type 0} (xs : List A) (i : ℕ) (d : A) → slice_get xs i ≡ None → d ≡ get_or xs i d
past_end [] i d e = refl
past_end (x ∷ xs) zero d e = cc
past_end (x ∷ xs) (suc i) d e = past_end xs i d e
