use Rattle.std.proofs.Common.{◌<◌, length, arith, rules}
use Rattle.abc_tidy_entries.specs.Rules.{MethodHolds}
use Rattle.abc_tidy_entries.proofs.Firsts.{holds_next}
use Rattle.abc_tidy_entries.proofs.checks.check_methods.Goals as goal

pub loop-i-preserved : goal.loop-i-preserved
loop-i-preserved c =
    let lt : c.loop-i.i < length c.args.abc.now.methods = omega (arith, c.loop-i-test.true, c.in_ok-count.ensures, c.len.ensures) in
    let holds : MethodHolds c.args.abc.now c.get.result.now = search (rules, c.if-not-method_holds.ensures) in
    holds_next (MethodHolds c.args.abc.now) c.args.abc.now.methods c.loop-i.i c.get.result.now c.loop-i.invariant lt c.get.ensures holds
