use Rattle.std.proofs.Common.{◌≡◌, ◌++◌, take}
use Rattle.abc_text_writer.specs.Numbers.{numbers_bytes}
use Rattle.abc_text_writer.proofs.numbers.put_numbers.Given as goal

abbrev pub invariant-loop-n : goal.invariant-loop-n
invariant-loop-n l = l.out.items ≡ l.initial.out.items ++ numbers_bytes (take l.n-index l.items)
