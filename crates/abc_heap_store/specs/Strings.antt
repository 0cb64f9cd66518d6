-- Texts that stand one after the other in one block, each known by its end.
use Rattle.std.specs.Prelude.{◌≡◌, ℕ, ◌-◌, ◌≤◌, List, [], ◌∷◌, take, drop}

-- the texts from a place on
abbrev pub texts_from : ℕ → List ℕ → List ℕ → List (List ℕ)
texts_from at [] bytes = []
texts_from at (e ∷ ends) bytes = take (e - at) (drop at bytes) ∷ texts_from e ends bytes

-- the ends rise from a place to the end of the block
abbrev pub AreTextEnds : ℕ → List ℕ → ℕ → Type 0
AreTextEnds at [] n = at ≡ n
AreTextEnds at (e ∷ ends) n = (at ≤ e) × AreTextEnds e ends n
