use Rattle.std.proofs.Common.{◌≡◌, map, take}
use Rattle.abc_tidy_entries.proofs.places.doubles_of.Given as goal

abbrev pub invariant-loop-double : goal.invariant-loop-double
invariant-loop-double l = l.doubles ≡ map (λ d. d.0) (take l.double-index l.double-items)
