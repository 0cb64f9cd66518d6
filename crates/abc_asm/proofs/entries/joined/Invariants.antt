-- The entries so far.
use Rattle.std.proofs.Common.{◌≡◌, take}
use Rattle.abc_text_lines.specs.Answers.{flat_pairs}
use Rattle.abc_asm.proofs.entries.joined.Given as goal

abbrev pub invariant-loop-entry : goal.invariant-loop-entry
invariant-loop-entry l = l.items ≡ flat_pairs (take l.entry-index l.entries)
