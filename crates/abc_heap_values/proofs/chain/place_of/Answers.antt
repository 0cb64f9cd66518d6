use Rattle.abc_heap_values.proofs.Walks.{reached_on, reached_above, reached_at}
use Rattle.abc_heap_values.proofs.chain.place_of.Goals as goal

pub nearer-place-requires-clause-above : goal.nearer-place-requires-clause-above
nearer-place-requires-clause-above c = λ d e. reached_above _ c.args.from _ _ d _ c.requires.above.inside c.loop-place.invariant c.cell_at.ensures c.loop-place-test.true e

pub loop-place-preserved : goal.loop-place-preserved
loop-place-preserved c = reached_on _ _ _ _ _ c.loop-place.invariant c.nearer-place.ensures.reached

pub returns : goal.returns
returns c = λ d e. reached_at _ _ _ _ d _ c.loop-place.invariant e c.cell_at.ensures c.loop-place-test.false
