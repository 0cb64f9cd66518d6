-- The state that a run begins with, and what it meets, depend on the names of the host's formulas alone.
use Rattle.std.proofs.Common.{ℕ, List, [], length, ap}
use Rattle.abc_meaning.specs.Throwing.{Machine}
use Rattle.abc_objects.specs.Opening.{opening}
use Rattle.std.specs.Prelude.{false, replicate}
use Rattle.abc_meaning_sound.specs.Premise.{FirstByNames}

pub same_first : FirstByNames
same_first l fs gs limits e =
    let of : List (List ℕ) → Machine = λ names. record { world = record { heap = opening l names limits; started = replicate (length l.file.scripts) false; wrote = [] }; frames = [] } in
    ap of e
