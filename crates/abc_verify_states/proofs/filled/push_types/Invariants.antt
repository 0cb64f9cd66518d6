use Rattle.std.proofs.Common.{◌≡◌, ◌++◌, map, take}
use Rattle.abc_verify_typing.specs.Routines.{or_any, type_at}
use Rattle.abc_verify_states.proofs.filled.push_types.Given as goal

abbrev pub invariant-loop-name : goal.invariant-loop-name
invariant-loop-name l = l.filled ≡ l.initial.filled ++ map (λ t. or_any (type_at l.linked t)) (take l.name-index l.names)
