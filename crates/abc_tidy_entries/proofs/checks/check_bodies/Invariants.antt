use Rattle.abc_tidy_entries.specs.Firsts.{HoldBelow}
use Rattle.abc_tidy_entries.specs.Rules.{BodyHolds}
use Rattle.abc_tidy_entries.proofs.checks.check_bodies.Given as goal

abbrev pub invariant-loop-i : goal.invariant-loop-i
invariant-loop-i l = HoldBelow (BodyHolds l.abc) l.abc.bodies l.i
