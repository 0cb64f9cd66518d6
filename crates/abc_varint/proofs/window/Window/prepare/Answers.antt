use Rattle.abc_varint.proofs.Inputs.{kept_is_no_memory}
use Rattle.abc_varint.proofs.window.Window.prepare.Goals as goal

pub returns-in-Some-clause-no_memory : goal.returns-in-Some-clause-no_memory
returns-in-Some-clause-no_memory g c = λ h. kept_is_no_memory c.in-Some.e (c.self.invariant.7 c.in-Some.e c.in-Some.is) cc
