use Rattle.std.proofs.Common.{◌≡◌, false, replicate}
use Rattle.abc_bodies.proofs.read.flags_down.Given as goal

abbrev pub invariant-loop : goal.invariant-loop
invariant-loop l = l.flags ≡ replicate l.counter false
