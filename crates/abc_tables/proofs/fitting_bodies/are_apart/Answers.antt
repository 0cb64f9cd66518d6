use Rattle.std.proofs.Common.{refl}
use Rattle.abc_tables.proofs.Rising.{rise_differ}
use Rattle.abc_tables.proofs.fitting_bodies.are_apart.Goals as goal

pub returns-then-rise : goal.returns-then-rise
returns-then-rise c = (λ yes_result. rise_differ c.args.bodies.now (c.requires.rise c.if-rise.true), λ pairs. refl)
