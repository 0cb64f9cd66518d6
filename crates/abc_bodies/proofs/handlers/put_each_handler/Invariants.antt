use Rattle.std.proofs.Common.{◌≡◌, ◌++◌, take}
use Rattle.std.specs.List.{flat_map}
use Rattle.abc_file_types.specs.Bodies.{handler_bytes}
use Rattle.abc_bodies.proofs.handlers.put_each_handler.Given as goal

abbrev pub invariant-loop-handler : goal.invariant-loop-handler
invariant-loop-handler l = l.out.items ≡ l.initial.out.items ++ flat_map (handler_bytes l.starts) (take l.handler-index l.handlers)
