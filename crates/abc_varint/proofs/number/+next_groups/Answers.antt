use Rattle.std.proofs.Common.{◌-◌, arith}
use Rattle.abc_varint.proofs.Steps.{bound_one, bound_step, bound_all, few_step}
use Rattle.abc_varint.proofs.number.+next_groups.Goals as goal

pub returns-then-x-lt128-clause-bound : goal.returns-then-x-lt128-clause-bound
returns-then-x-lt128-clause-bound g t c = bound_one _ _ (omega arith) c.if-x-lt128.true

pub overflow_mul-result : goal.overflow_mul-result
overflow_mul-result g t c = omega (arith, bound_all (c.args.more - 1) c.in_ok-high.high (omega arith) c.in_ok-high.ensures.bound)

pub overflow_add-result : goal.overflow_add-result
overflow_add-result g t c = omega (arith, bound_all (c.args.more - 1) c.in_ok-high.high (omega arith) c.in_ok-high.ensures.bound)

pub returns-clause-bound : goal.returns-clause-bound
returns-clause-bound g t c = bound_step _ _ _ (omega arith) c.in_ok-high.ensures.bound

pub returns-clause-passes : goal.returns-clause-passes
returns-clause-passes g t c =
    let low = c.in_ok-x.ensures in
    let high = c.in_ok-high.ensures.passes in
    (few_step c.in_ok-x.x c.in_ok-high.high _ _ _ low.moves high.0, omega (arith, high.1, low.value.3))
