use Rattle.std.proofs.Common.{◌≡◌, ◌++◌, drop}
use Rattle.abc_link_names.specs.Owners.{namings_from, of_class}
use Rattle.abc_link_layouts.proofs.namings.push_classes.Given as goal

abbrev pub invariant-loop-k : goal.invariant-loop-k
invariant-loop-k l = l.list ++ namings_from of_class l.k (drop l.k l.abc.classes) ≡ l.initial.list ++ namings_from of_class 0 l.abc.classes
