use Rattle.std.proofs.KnownBytes.{Keeps-refl}
use Rattle.abc_cli.proofs.logged_run.hand_on_last.Goals as goal

pub returns-in-WriteFault-clause-bytes : goal.returns-in-WriteFault-clause-bytes
returns-in-WriteFault-clause-bytes g c = Keeps-refl _
