use Rattle.std.proofs.Common.{◌≡◌, ℕ, ◌<◌, false}
use Rattle.abc_link_rules.specs.Clashes.{is_clash_of}
use Rattle.abc_link_rules.proofs.same_name.any_clash_in.Given as goal

abbrev pub invariant-loop-i : goal.invariant-loop-i
invariant-loop-i l = (k : ℕ) → k < l.i → is_clash_of l.keys l.firsts l.sided k ≡ false
