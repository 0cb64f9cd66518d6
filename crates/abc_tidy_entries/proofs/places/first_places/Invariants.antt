use Rattle.abc_tidy_entries.specs.Heads.{HasHeadPlaces}
use Rattle.abc_tidy_entries.proofs.places.first_places.Given as goal

abbrev pub invariant-loop-i : goal.invariant-loop-i
invariant-loop-i g l = HasHeadPlaces g.K.PartialEq.eq l.marks l.begin l.values l.kept l.i l.places
