use Rattle.std.proofs.Common.{◌≡◌, ◌≤◌, length, map, subst, arith}
use Rattle.abc_tidy_refs.specs.Nodes.{new_index}
use Rattle.abc_tidy_refs.proofs.Unchanged.{all_stay, one_more_stays}
use Rattle.abc_tidy_refs.proofs.indexed.TableIndexed.may_change.Goals as goal

pub loop-item-preserved : goal.loop-item-preserved
loop-item-preserved g c =
    one_more_stays (g.T.Indexed.renumbered (new_index c.args.numbers.now)) c.as_slice-item-items.result.now c.loop-item.item-index c.item-item.result c.loop-item-test.true c.item-item.is c.loop-item.invariant (c.may_change.ensures c.if-may_change.false)

pub returns : goal.returns
returns g c = λ no.
    let f = g.T.Indexed.renumbered (new_index c.args.numbers.now) in
    let end : length c.as_slice-item-items.result.now ≤ c.loop-item.item-index = omega (arith, c.loop-item-test.false) in
    subst (λ l. map f l ≡ l) c.as_slice-item-items.ensures (all_stay f c.as_slice-item-items.result.now c.loop-item.item-index end c.loop-item.invariant)
