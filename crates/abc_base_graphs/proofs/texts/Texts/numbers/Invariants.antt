use Rattle.std.proofs.Common.{◌≡◌, take}
use Rattle.abc_base_graphs.specs.Texts.{numbers_in}
use Rattle.abc_base_graphs.proofs.texts.Texts.numbers.Given as goal

abbrev pub invariant-loop-string : goal.invariant-loop-string
invariant-loop-string l = l.numbers ≡ numbers_in l.self (take l.string-index l.string-items)
