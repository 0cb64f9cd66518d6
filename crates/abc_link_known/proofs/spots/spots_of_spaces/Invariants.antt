use Rattle.abc_link_known.specs.Spots.{HasSpots}
use Rattle.abc_link_known.proofs.spots.spots_of_spaces.Given as goal

abbrev pub invariant-loop-space : goal.invariant-loop-space
invariant-loop-space l = HasSpots l.names.abc.now l.names.tables.now.numbers l.found l.spots l.space
