use Rattle.abc_tidy_entries.specs.Numbered.{AreNodeNumbers}
use Rattle.abc_tidy_entries.proofs.numbering.node_numbers.Given as goal

abbrev pub invariant-loop-node : goal.invariant-loop-node
invariant-loop-node l = AreNodeNumbers l.classes.classes l.places l.numbers l.node l.all
