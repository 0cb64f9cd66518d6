use Rattle.std.proofs.Common.{take}
use Rattle.abc_verify_states.specs.Marking.{Marks, handler_places}
use Rattle.abc_verify_states.proofs.heads.mark_handlers.Given as goal

abbrev pub invariant-loop-handler : goal.invariant-loop-handler
invariant-loop-handler l = Marks (handler_places (take l.handler-index l.handlers)) l.initial.marks l.marks
