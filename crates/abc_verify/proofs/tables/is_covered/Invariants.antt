use Rattle.std.proofs.Common.{◌≡◌, drop}
use Rattle.std.specs.Prelude.{filter}
use Rattle.abc_verify_typing.specs.Effects.{covers}
use Rattle.abc_verify.proofs.tables.is_covered.Given as goal

abbrev pub invariant-loop-handler : goal.invariant-loop-handler
invariant-loop-handler l = filter (covers l.place) l.handlers ≡ filter (covers l.place) (drop l.handler-index l.handlers)
