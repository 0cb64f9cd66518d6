use Rattle.abc_objects.specs.Stands.{StandsOver}
use Rattle.abc_tests_heap.proofs.arenas.wrong_step.Given as goal

abbrev pub invariant-loop-row : goal.invariant-loop-row
invariant-loop-row l = StandsOver l.l l.a
