-- Whether a number is found.
use Rattle.std.proofs.Common.{◌≡◌, ℕ, ◌+◌, Bool, true, false, ◌||◌, List, [], ◌∷◌, Some, cond, refl}
use Rattle.std.specs.Prelude.{is_some}
use Rattle.std.specs.List.{list_any}
use Rattle.abc_base_graphs.specs.Index.{first_from}

-- a key stands somewhere exactly where it has a first place
pub found_any : {K : Type 0} (test : K → Bool) (n : ℕ) (ks : List K) → is_some (first_from test n ks) ≡ list_any test ks
found_any test n [] = refl
found_any test n (k ∷ ks) = go (test k) (found_any test (n + 1) ks)
  where
    go : (b : Bool) → is_some (first_from test (n + 1) ks) ≡ list_any test ks → is_some (cond b (Some n) (first_from test (n + 1) ks)) ≡ (b || list_any test ks)
    go true e = refl
    go false e = e
