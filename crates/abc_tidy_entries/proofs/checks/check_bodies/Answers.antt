use Rattle.std.proofs.Common.{◌<◌, length, arith, rules}
use Rattle.abc_tidy_entries.specs.Rules.{BodyHolds}
use Rattle.abc_tidy_entries.proofs.Firsts.{holds_next}
use Rattle.abc_tidy_entries.proofs.checks.check_bodies.Goals as goal

pub loop-i-preserved : goal.loop-i-preserved
loop-i-preserved c =
    let lt : c.loop-i.i < length c.args.abc.now.bodies = omega (arith, c.loop-i-test.true, c.in_ok-count.ensures, c.len.ensures) in
    let holds : BodyHolds c.args.abc.now c.get.result.now = search (rules, c.if-not-body_holds.ensures) in
    holds_next (BodyHolds c.args.abc.now) c.args.abc.now.bodies c.loop-i.i c.get.result.now c.loop-i.invariant lt c.get.ensures holds
