use Rattle.std.proofs.Common.{◌≡◌, length}
use Rattle.abc_tidy_entries.specs.Numbered.{AreClassPlaces}
use Rattle.abc_tidy_entries.proofs.numbering.places_of.Given as goal

abbrev pub invariant-loop-i : goal.invariant-loop-i
invariant-loop-i l = AreClassPlaces l.classes.classes l.seen l.i l.places × (length l.places ≡ length l.classes.keys.keys)
