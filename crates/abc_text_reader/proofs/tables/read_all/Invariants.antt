-- What was read, and what is left, is what is read of all.
use Rattle.std.proofs.Common.{length}
use Rattle.abc_text_reader.specs.Parts.{Going, headed_item}
use Rattle.abc_text_reader.specs.Reading.{rows_left}
use Rattle.abc_text_reader.proofs.tables.read_all.Given as goal

abbrev pub invariant-loop-word : goal.invariant-loop-word
invariant-loop-word g l = Going g.H.Headed.named (headed_item g.H.Headed.value g.H.Headed.lower g.H.Headed.whole) l.table l.initial.reader l.reader

abbrev pub decreases-loop-word : goal.decreases-loop-word
decreases-loop-word g l = length (rows_left l.reader)
