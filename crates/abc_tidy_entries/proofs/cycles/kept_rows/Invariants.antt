use Rattle.abc_tidy_entries.specs.Kept.{AreKeptBelow}
use Rattle.abc_tidy_entries.proofs.cycles.kept_rows.Given as goal

abbrev pub invariant-loop-node : goal.invariant-loop-node
invariant-loop-node l = AreKeptBelow l.marks l.graph l.rows l.node
