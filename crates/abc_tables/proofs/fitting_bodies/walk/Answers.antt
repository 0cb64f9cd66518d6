use Rattle.std.proofs.Common.{◌≤◌, length, arith}
use Rattle.abc_tables.specs.Fitting.{FitsBody}
use Rattle.abc_tables.specs.Lengths.{body_len}
use Rattle.abc_tables.proofs.Rising.{all_risen, later_at, none_risen}
use Rattle.abc_tables.proofs.Walking.{all_so_far, none_so_far, one_more, one_unfit}
use Rattle.abc_tables.proofs.fitting_bodies.walk.Goals as goal

pub loop-body-init : goal.loop-body-init
loop-body-init c = (none_so_far (FitsBody c.args.sizes.now) body_len c.args.bodies.now, λ rise. none_risen c.args.bodies.now)

pub returns-in_err-more : goal.returns-in_err-more
returns-in_err-more c =
    rw c.from_residual.ensures (λ all.
    one_unfit (FitsBody c.args.sizes.now) c.args.bodies.now c.loop-body.body-index c.body-item.result c.loop-body-test.true c.body-item.is c.in_err-more.ensures all)

pub loop-body-preserved : goal.loop-body-preserved
loop-body-preserved c = (
  rw c.saturating_add-len.ensures
      (one_more (FitsBody c.args.sizes.now) body_len c.args.bodies.now c.loop-body.body-index c.loop-body.walked.len c.in_ok-more.more c.body-item.result c.loop-body-test.true c.body-item.is c.loop-body.invariant.0 c.in_ok-more.ensures.0 c.in_ok-more.ensures.1),
  λ rise.
      let r = c.rises-rise.ensures rise in
      later_at c.loop-body.least c.args.bodies.now c.loop-body.body-index c.body-item.result c.loop-body-test.true c.body-item.is (c.loop-body.invariant.1 r.0) r.1,
)

pub returns : goal.returns
returns c =
    let end : length c.args.bodies.now ≤ c.loop-body.body-index = omega arith in
    let all = all_so_far (FitsBody c.args.sizes.now) body_len c.args.bodies.now c.loop-body.body-index c.loop-body.walked.len end c.loop-body.invariant.0 in
    (all.0, all.1, λ rise. all_risen c.loop-body.least c.args.bodies.now c.loop-body.body-index end (c.loop-body.invariant.1 rise))
