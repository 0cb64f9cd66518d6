use Rattle.std.proofs.Common.{◌≡◌, ◌≤◌, ◌-◌, ◌^◌, length, min, subst, sym, arith}
use Rattle.std.specs.Prelude.{All}
use Rattle.std.specs.List.{sum_by}
use Rattle.abc_tables.proofs.Walking.{all_so_far, none_so_far, one_more, one_unfit}
use Rattle.abc_tables.proofs.walks.len_of_each.Goals as goal

pub loop-item-init : goal.loop-item-init
loop-item-init g c = none_so_far (g.T.Fitting.fits c.args.sizes.now) g.T.Measured.len c.as_slice-item-items.result.now

pub returns-in_err-more : goal.returns-in_err-more
returns-in_err-more g c =
    rw c.from_residual.ensures (λ all.
    one_unfit (g.T.Fitting.fits c.args.sizes.now) c.as_slice-item-items.result.now c.loop-item.item-index c.item-item.result c.loop-item-test.true c.item-item.is c.in_err-more.ensures
    (subst (All (g.T.Fitting.fits c.args.sizes.now)) (sym c.as_slice-item-items.ensures) all))

pub loop-item-preserved : goal.loop-item-preserved
loop-item-preserved g c =
    rw c.saturating_add-len.ensures
    (one_more (g.T.Fitting.fits c.args.sizes.now) g.T.Measured.len c.as_slice-item-items.result.now c.loop-item.item-index c.loop-item.len c.in_ok-more.more c.item-item.result c.loop-item-test.true c.item-item.is c.loop-item.invariant c.in_ok-more.ensures.0 c.in_ok-more.ensures.1)

pub returns : goal.returns
returns g c =
    let end : length c.as_slice-item-items.result.now ≤ c.loop-item.item-index = omega (arith, c.loop-item-test.false) in
    let all = all_so_far (g.T.Fitting.fits c.args.sizes.now) g.T.Measured.len c.as_slice-item-items.result.now c.loop-item.item-index c.loop-item.len end c.loop-item.invariant in
    subst (λ l. All (g.T.Fitting.fits c.args.sizes.now) l × (c.loop-item.len ≡ min (sum_by g.T.Measured.len l) (2 ^ 64 - 1))) c.as_slice-item-items.ensures all
