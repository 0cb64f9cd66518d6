use Rattle.std.proofs.Common.{◌≡◌, drop}
use Rattle.std.specs.List.{find}
use Rattle.abc_run_finish.specs.Handling.{handler_catches as catches_so}
use Rattle.abc_run_finish.proofs.handlers.HandlersFor.first.Given as goal

abbrev pub invariant-loop-handler : goal.invariant-loop-handler
invariant-loop-handler l = find (catches_so l.self.linked l.self.heap l.self.value l.place) (drop l.handler-index l.handlers) ≡ find (catches_so l.self.linked l.self.heap l.self.value l.place) l.handlers
