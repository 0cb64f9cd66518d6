use Rattle.std.proofs.Common.{◌≡◌, ℕ, ◌<◌, get_or}
use Rattle.abc_link_rules.specs.Repeats.{no_sided}
use Rattle.abc_link_rules.proofs.same_name.has_sides.Given as goal

abbrev pub invariant-loop-i : goal.invariant-loop-i
invariant-loop-i l = (k : ℕ) → k < l.i → (get_or l.keys k no_sided).side ≡ 0
