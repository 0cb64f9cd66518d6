-- A stack seen with the top first.
use Rattle.std.proofs.Common.{◌≡◌, ℕ, ◌-◌, ◌<◌, ◌≤◌, List, length, reverse, get_or, sym, arith}
use Rattle.std.proofs.lemmas.List.{get_or-reverse, get_or_past, length-reverse}

pub deep : {X : Type 0} (xs : List X) (k : ℕ) (d : X) → k < length xs → get_or xs (length xs - 1 - k) d ≡ get_or (reverse xs) k d
deep xs k d h = sym (get_or-reverse xs k d h)

pub past : {X : Type 0} (xs : List X) (k : ℕ) (d : X) → length xs ≤ k → d ≡ get_or (reverse xs) k d
past xs k d h = sym (get_or_past (reverse xs) k d (omega (arith, length-reverse xs)))
