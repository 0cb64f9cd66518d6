use Rattle.abc_tidy_entries.specs.Numbered.{IsCounting}
use Rattle.abc_tidy_entries.proofs.numbering.numbers_met.Given as goal

abbrev pub invariant-loop-node : goal.invariant-loop-node
invariant-loop-node l = IsCounting l.counts l.seen l.node-index l.counters.met l.numbers
