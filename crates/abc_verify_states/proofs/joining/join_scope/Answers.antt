use Rattle.std.proofs.Common.{refl}
use Rattle.abc_verify_states.proofs.joining.join_scope.Goals as goal

pub returns : goal.returns
returns g c = record { kind = c.join_kinds-kind.ensures; flag = refl; same = c.requires }
