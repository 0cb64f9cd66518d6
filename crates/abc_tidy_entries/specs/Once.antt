-- For the prover alone: the numbers of a list, each once, where it first stands.
use Rattle.std.specs.Prelude.{◌≡◌, ℕ, ◌<◌, List, [], ◌∷◌, ◌++◌, Bool, false, if◌then◌else◌, get_or, length, nat_eq}
use Rattle.std.specs.List.{list_any}

abbrev pub is_in_list : ℕ → List ℕ → Bool
is_in_list x ys = list_any (nat_eq x) ys

-- one more number, unless it is there
abbrev pub with_one : List ℕ → ℕ → List ℕ
with_one ys x = if is_in_list x ys then ys else ys ++ x ∷ []

-- some more numbers
abbrev pub with_all : List ℕ → List ℕ → List ℕ
with_all ys [] = ys
with_all ys (x ∷ xs) = with_all (with_one ys x) xs

-- the numbers of a list, each once, where it first stands
abbrev pub once : List ℕ → List ℕ
once xs = with_all [] xs

-- the marks tell which numbers stand in a list
pub record AreListMarks (marks : List Bool) (ys : List ℕ) : Type 0 where
  pub marks_are : (y : ℕ) → y < length marks → get_or marks y false ≡ is_in_list y ys
