-- Lists in a row, as the values of all of them and the places where each ends.
use Rattle.std.specs.Prelude.{◌≡◌, ℕ, zero, suc, ◌-◌, ◌≤◌, List, [], ◌∷◌, drop, take}

-- the lists, of which the first begins at a place, and each of the others where the one before it ends
abbrev pub rows_from : {X : Type 0} → ℕ → List ℕ → List X → List (List X)
rows_from begin [] items = []
rows_from begin (end ∷ ends) items = take (end - begin) (drop begin items) ∷ rows_from end ends items

-- the places never fall, and the last is the end of all
abbrev pub AreRowEnds : ℕ → List ℕ → ℕ → Type 0
AreRowEnds begin [] all = begin ≡ all
AreRowEnds begin (end ∷ ends) all = (begin ≤ end) × AreRowEnds end ends all

-- where a list begins
abbrev pub begin_of : ℕ → ℕ → List ℕ → ℕ
begin_of zero begin ends = begin
begin_of (suc i) begin [] = begin
begin_of (suc i) begin (end ∷ ends) = begin_of i end ends
