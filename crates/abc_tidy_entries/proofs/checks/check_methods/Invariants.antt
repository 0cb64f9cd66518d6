use Rattle.abc_tidy_entries.specs.Firsts.{HoldBelow}
use Rattle.abc_tidy_entries.specs.Rules.{MethodHolds}
use Rattle.abc_tidy_entries.proofs.checks.check_methods.Given as goal

abbrev pub invariant-loop-i : goal.invariant-loop-i
invariant-loop-i l = HoldBelow (MethodHolds l.abc) l.abc.methods l.i
