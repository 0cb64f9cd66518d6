-- The canonical bytes of a file are read as the file that it is, with the starts of its canonical code.
use Rattle.std.proofs.Common.{◌≡◌, ℕ, zero, suc, ◌+◌, List, [], ◌∷◌, Some, get_or, length, sym, arith}
use Rattle.std.specs.Prelude.{slice_get}
use Rattle.std.proofs.lemmas.List.{length-map}
use Rattle.abc_bodies.specs.Places.{ArePlaces}
use Rattle.abc_file_types.specs.declared.code.Body.{Body}
use Rattle.abc_file_types.specs.declared.tables.Abc.{Abc}
use Rattle.abc_file_types.specs.CodeBytes.{canonical_starts}
use Rattle.abc_file_types.specs.Files.{Fits}
use Rattle.abc_file_types.proofs.Lengths.{canonical_count}
use Rattle.abc_file_types.proofs.Whole.{canonical_read}
use Rattle.abc_cli_answers.specs.Placed.{IsReadAgain, starts_in}

pub read_again : (v : Abc) → Fits v → IsReadAgain v (starts_in v.bodies)
read_again v f = canonical_read v f.0 f.1

-- ---- a place for each instruction

place_each : (bs : List Body) (i : ℕ) (b : Body) → slice_get bs i ≡ Some b → length (get_or (starts_in bs) i []) ≡ length b.code + 1
place_each [] i b e = absurd cc
place_each (x ∷ bs) zero b e = let is : x ≡ b = grind arith in rw (sym is) (omega (arith, canonical_count x.code))
place_each (x ∷ bs) (suc i) b e = place_each bs i b e

pub places_are : (bs : List Body) → ArePlaces bs (starts_in bs)
places_are bs = record { count = length-map bs (λ (b : Body). canonical_starts b.code); each = place_each bs }
