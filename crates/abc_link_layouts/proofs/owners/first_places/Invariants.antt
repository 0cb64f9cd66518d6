use Rattle.abc_link_layouts.specs.Owning.{HasFirstsFrom}
use Rattle.abc_link_layouts.proofs.owners.first_places.Given as goal

abbrev pub invariant-loop-i : goal.invariant-loop-i
invariant-loop-i l = HasFirstsFrom l.table l.methods l.i
