use Rattle.std.proofs.Common.{◌≡◌, ◌++◌, drop}
use Rattle.abc_verify_typing.specs.Routines.{catches_from}
use Rattle.abc_verify_states.proofs.catches.push_catches.Given as goal

abbrev pub invariant-loop-number : goal.invariant-loop-number
invariant-loop-number l = l.list ++ catches_from l.linked l.body l.number (drop l.number l.handlers) ≡ l.initial.list ++ catches_from l.linked l.body 0 l.handlers
