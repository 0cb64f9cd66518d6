-- Reading an entry at a place, or none past the end.
use Rattle.std.proofs.Common.{◌≡◌, ℕ, zero, suc, List, [], ◌∷◌, Some, None, get_or, slice_get, refl, sym}
use Rattle.std.specs.declared.option.Option.{Option}
use Rattle.std.proofs.lemmas.Option.{get_or_from_slice_get}

pub no_entry : {A : Type 0} (xs : List (Option A)) (i : ℕ) → slice_get xs i ≡ None → None ≡ get_or xs i None
no_entry [] i e = refl
no_entry (x ∷ xs) zero e = cc
no_entry (x ∷ xs) (suc i) e = no_entry xs i e

pub an_entry : {A : Type 0} (xs : List (Option A)) (i : ℕ) (x : Option A) → slice_get xs i ≡ Some x → x ≡ get_or xs i None
an_entry xs i x e = sym (get_or_from_slice_get xs i x None e)
