use Rattle.std.proofs.Common.{refl}
use Rattle.abc_machine.proofs.stepping.step.Goals as goal

pub step_on-goes-requires : goal.step_on-goes-requires
step_on-goes-requires g c = λ κs among. (among.0, (among.1, (c.requires.1.1.0, (c.requires.1.1.1, (c.hold-held.ensures.held, (refl, refl))))))
