use Rattle.std.proofs.Common.{◌≡◌, replicate, None}
use Rattle.abc_base_graphs.proofs.order.no_places.Given as goal

abbrev pub invariant-loop-i : goal.invariant-loop-i
invariant-loop-i l = l.places ≡ replicate l._i None
