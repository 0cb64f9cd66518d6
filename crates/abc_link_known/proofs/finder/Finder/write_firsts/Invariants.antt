use Rattle.std.proofs.Common.{◌≡◌, length}
use Rattle.abc_link_known.proofs.Firsts.{HasFirstsFrom}
use Rattle.abc_link_known.proofs.finder.Finder.write_firsts.Given as goal

abbrev pub invariant-loop-i : goal.invariant-loop-i
invariant-loop-i l = record { firsts : HasFirstsFrom l.self.names.abc.now l.self.names.tables.now.numbers l.slate l.classes l.i; len : length l.slate ≡ length l.fn.slate }
