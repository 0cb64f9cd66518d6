-- What was read, and what is left, is what is read of all.
use Rattle.std.proofs.Common.{length}
use Rattle.abc_text_lines.specs.declared.word.Word.TheVariants as words
use Rattle.abc_text_reader.specs.Parts.{Going}
use Rattle.abc_text_reader.specs.Reading.{rows_left}
use Rattle.abc_asm.specs.Below.{body_item}
use Rattle.abc_asm.proofs.bodies.read_bodies.Given as goal

abbrev pub invariant-loop-reader : goal.invariant-loop-reader
invariant-loop-reader l = Going words.Body body_item l.bodies l.initial.reader l.reader

abbrev pub decreases-loop-reader : goal.decreases-loop-reader
decreases-loop-reader l = length (rows_left l.reader)
