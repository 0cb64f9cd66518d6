use Rattle.std.proofs.Common.{bytes_eq}
use Rattle.abc_base_graphs.specs.Texts.{texts_of}
use Rattle.abc_tidy_entries.specs.Heads.{HasHeadPlaces}
use Rattle.abc_tidy_entries.proofs.places.places_of_texts.Given as goal

abbrev pub invariant-loop-i : goal.invariant-loop-i
invariant-loop-i l = HasHeadPlaces bytes_eq l.marks l.begin l.strings (texts_of l.chosen) l.i l.places
