-- What was read, and what is left, is what is read of all.
use Rattle.std.proofs.Common.{length}
use Rattle.abc_text_reader.specs.Coded.{IsCoding, IsSummed}
use Rattle.abc_text_reader.specs.Reading.{rows_left}
use Rattle.abc_text_reader.proofs.code.gather_code.Given as goal

abbrev pub invariant-loop-word : goal.invariant-loop-word
invariant-loop-word l = record {
  coding : IsCoding l.gathering.instrs l.initial.reader l.reader;
  summed : IsSummed l.gathering;
}

abbrev pub decreases-loop-word : goal.decreases-loop-word
decreases-loop-word l = length (rows_left l.reader)
