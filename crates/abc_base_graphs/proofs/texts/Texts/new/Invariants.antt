use Rattle.std.proofs.Common.{◌≡◌, ℕ, ◌+◌, List, drop}
use Rattle.std.specs.Str.{bytes_eq}
use Rattle.abc_base_graphs.specs.Index.{first_from}
use Rattle.abc_base_graphs.specs.Texts.{number_in_map}
use Rattle.abc_base_graphs.proofs.texts.Texts.new.Given as goal

abbrev pub invariant-loop-i : goal.invariant-loop-i
invariant-loop-i l = (text : List ℕ) → number_in_map l.numbers text ≡ first_from (bytes_eq text) (l.i + 1) (drop l.i l.strings)
