use Rattle.std.proofs.Common.{◌≡◌, drop, map}
use Rattle.std.specs.Prelude.{filter}
use Rattle.abc_verify_typing.specs.Effects.{covers}
use Rattle.abc_verify_typing.specs.Rules.{all_below, handler_target}
use Rattle.abc_verify.proofs.tables.are_handlers_below.Given as goal

abbrev pub invariant-loop-handler : goal.invariant-loop-handler
invariant-loop-handler l = all_below (map handler_target (filter (covers l.place) l.handlers)) l.end ≡ all_below (map handler_target (filter (covers l.place) (drop l.handler-index l.handlers))) l.end
