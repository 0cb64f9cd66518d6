use Rattle.std.proofs.Common.{◌≡◌, None, drop, get_or}
use Rattle.std.specs.Prelude.{is_some}
use Rattle.std.specs.List.{find}
use Rattle.abc_link_known.specs.Spots.{spot_of_class}
use Rattle.abc_link_known.proofs.finder.Finder.first_marked.Given as goal

abbrev pub invariant-loop-class : goal.invariant-loop-class
invariant-loop-class l = find (λ c. is_some (get_or l.slate (spot_of_class l.self.names.abc.now l.self.names.tables.now.numbers c) None)) l.classes ≡ find (λ c. is_some (get_or l.slate (spot_of_class l.self.names.abc.now l.self.names.tables.now.numbers c) None)) (drop l.class-index l.classes)
