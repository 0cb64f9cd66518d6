use Rattle.std.proofs.Common.{◌+◌, ◌*◌, ap}
use Rattle.abc_lookup.proofs.Numerals.{too_great}
use Rattle.abc_lookup.proofs.elements.number_of.Goals as goal

pub returns-then-number-gt-GREATEST : goal.returns-then-number-gt-GREATEST
returns-then-number-gt-GREATEST c =
    too_great c.args.digits.now c.loop-digit.number c.loop-digit.digit-index _ c.loop-digit-test.true c.loop-digit.invariant.same (ap (λ d. c.loop-digit.number * 10 + d) c.saturating_sub.ensures) c.if-number-gt-GREATEST.true
