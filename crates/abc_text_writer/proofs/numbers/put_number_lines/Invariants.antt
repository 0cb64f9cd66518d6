use Rattle.std.proofs.Common.{◌≡◌, ◌++◌, take}
use Rattle.abc_text_writer.specs.Numbers.{number_lines}
use Rattle.abc_text_writer.proofs.numbers.put_number_lines.Given as goal

abbrev pub invariant-loop-n : goal.invariant-loop-n
invariant-loop-n l = l.out.items ≡ l.initial.out.items ++ number_lines l.word (take l.n-index l.items)
