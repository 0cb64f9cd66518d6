use Rattle.abc_objects.specs.Stands.{StandsOver}
use Rattle.abc_tests_heap.proofs.searches.make_objects.Given as goal

abbrev pub invariant-loop-part : goal.invariant-loop-part
invariant-loop-part l = StandsOver l.l l.a
