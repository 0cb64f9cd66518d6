-- What holds of an input, by its front.
use Rattle.std.proofs.Common.{◌≡◌, ℕ, List, [], ◌++◌, Some, None, refl, subst, sym}
use Rattle.std.specs.Io.KnownBytes.{Consumes, IsAtEnd}
use Rattle.std.specs.declared.option.Option.{Option}
use Rattle.abc_file.specs.Reading.{OfInput}

pub of_map : (o : Option (List ℕ)) (P Q : List ℕ → Type 0) → ((input : List ℕ) → P input → Q input) → OfInput o P → OfInput o Q
of_map None P Q f x = (x.0, f x.0 x.1)
of_map (Some input) P Q f x = f input x

-- what holds of every input
pub of_all : (o : Option (List ℕ)) (P : List ℕ → Type 0) → ((input : List ℕ) → P input) → OfInput o P
of_all None P f = ([], f [])
of_all (Some input) P f = f input

-- a front was taken of it
pub of_consumed : (old new : Option (List ℕ)) (front : List ℕ) (P : List ℕ → Type 0) → Consumes old new front → OfInput new (λ rest. P (front ++ rest)) → OfInput old P
of_consumed None None front P taken x = (front ++ x.0, x.1)
of_consumed None (Some rest) front P taken x = (front ++ rest, x)
of_consumed (Some xs) None front P taken x = absurd taken
of_consumed (Some xs) (Some rest) front P taken x = subst P (sym taken) x

-- nothing is left of it
pub of_end : (o : Option (List ℕ)) → IsAtEnd o → OfInput o (λ rest. rest ≡ [])
of_end None end = ([], refl)
of_end (Some rest) end = end
