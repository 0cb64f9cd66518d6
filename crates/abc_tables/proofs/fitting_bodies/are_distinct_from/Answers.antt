use Rattle.std.proofs.Common.{length, refl, arith}
use Rattle.abc_tables.proofs.Windows.{begun, marked_at, met_at, skipped_at}
use Rattle.abc_tables.proofs.fitting_bodies.are_distinct_from.Goals as goal
use Rattle.abc_tables.proofs.fitting_bodies.are_distinct_from.Goals.{then-low-method+then-method-low+else-seen-method, else-low-method, else-low-method-via-then-low-method+else-method-low, else-low-method-via-else-low-method}

pub loop-body-init : goal.loop-body-init
loop-body-init c = begun c.args.low (length c.args.seen.now) c.args.seen.now refl c.requires

pub returns-then-seen-method : goal.returns-then-seen-method
returns-then-seen-method c = (
  λ no_result. absurd cc,
  λ pairs. absurd (met_at c.args.low (length c.args.seen.now) c.loop-body.seen c.args.bodies.now c.loop-body.body-index c.body-item.result c.loop-body-test.true c.body-item.is c.loop-body.invariant c.if-low-method.true c.if-method-low.true c.if-seen-method.true pairs),
)

pub loop-body-preserved : goal.loop-body-preserved
loop-body-preserved c =
    let low = c.args.low in
    let many = length c.args.seen.now in
    let seen = c.loop-body.seen in
    let bodies = c.args.bodies.now in
    let i = c.loop-body.body-index in
    let x = c.body-item.result in
    let skip = skipped_at low many seen bodies i x c.loop-body-test.true c.body-item.is c.loop-body.invariant in
    elim c.if-low-method.branch [
      | then-low-method+then-method-low+else-seen-method w ↦
          rw w.seen-is (marked_at low many seen bodies i x c.loop-body-test.true c.body-item.is c.loop-body.invariant w.if-low-method.true w.if-method-low.true w.if-seen-method.false)
      | else-low-method w ↦
          rw w.seen-is
          (elim w.else-low-method.branch [
            | else-low-method-via-then-low-method+else-method-low u ↦ skip (λ le lt. omega (arith, u.if-method-low.false))
            | else-low-method-via-else-low-method u ↦ skip (λ le lt. omega (arith, u.if-low-method.false))
          ])
    ]
