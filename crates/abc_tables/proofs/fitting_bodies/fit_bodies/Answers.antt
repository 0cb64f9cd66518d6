use Rattle.abc_tables.proofs.BodiesFit.{methods_below}
use Rattle.abc_tables.proofs.fitting_bodies.fit_bodies.Goals as goal

pub are_apart-requires-clause-below : goal.are_apart-requires-clause-below
are_apart-requires-clause-below c = methods_below c.args.sizes.now c.as_slice-bodies.result.now (rw c.as_slice-bodies.ensures c.requires.each)

pub are_apart-requires-clause-rise : goal.are_apart-requires-clause-rise
are_apart-requires-clause-rise c = λ rise. rw c.as_slice-bodies.ensures (c.requires.rise rise)
