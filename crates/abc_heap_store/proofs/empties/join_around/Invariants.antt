use Rattle.std.proofs.Common.{◌<◌}
use Rattle.abc_heap_store.specs.Spots.{IsSame}
use Rattle.abc_heap_store.proofs.empties.join_around.Given as goal

abbrev pub invariant-loop : goal.invariant-loop
invariant-loop l = IsSame l.heads.items l.initial.cells l.cells × (0 < l.size)
