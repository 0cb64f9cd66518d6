use Rattle.std.proofs.Common.{refl, arith, below_more}
use Rattle.abc_tables.proofs.Windows.{covered}
use Rattle.abc_tables.proofs.fitting_bodies.are_distinct.Goals as goal

pub loop-window-preserved : goal.loop-window-preserved
loop-window-preserved c = below_more _ _ c.loop-window.invariant (c.are_distinct_in.ensures.0 c.if-not-are_distinct_in.false)

pub returns : goal.returns
returns c = (λ yes_result. covered c.args.bodies.now c.loop-window.window c.args.methods c.loop-window.invariant (omega arith) c.requires, λ pairs. refl)
