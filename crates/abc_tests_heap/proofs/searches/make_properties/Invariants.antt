use Rattle.abc_objects.specs.Stands.{StandsOver}
use Rattle.abc_tests_heap.proofs.searches.make_properties.Given as goal

abbrev pub invariant-loop-o : goal.invariant-loop-o
invariant-loop-o l = StandsOver l.l l.a
