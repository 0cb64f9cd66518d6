use Rattle.std.proofs.Common.{◌≡◌, ◌++◌, replicate}
use Rattle.abc_frames.proofs.pile.Pile.fill.Given as goal

abbrev pub invariant-loop-k : goal.invariant-loop-k
invariant-loop-k g l = l.self ≡ record { items = l.initial.self.items ++ replicate l.k l.x; limit = l.initial.self.limit }
