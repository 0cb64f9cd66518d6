use Rattle.std.proofs.Common.{◌≡◌, take}
use Rattle.abc_base_graphs.specs.Index.{first}
use Rattle.abc_link_known.specs.Slates.{has_spot_among}
use Rattle.abc_link_known.proofs.finder.Finder.first_place.Given as goal

abbrev pub invariant-loop-space : goal.invariant-loop-space
invariant-loop-space l = l.first ≡ first (has_spot_among l.self.names.abc.now l.self.names.tables.now.numbers (take l.space-index l.spaces)) l.classes
