use Rattle.std.proofs.Common.{◌≡◌, false, take}
use Rattle.std.specs.List.{list_any}
use Rattle.abc_link_names.proofs.type_tests.any_handler_type.Given as goal

abbrev pub invariant-loop-handler : goal.invariant-loop-handler
invariant-loop-handler g l = list_any (λ h. g.T.TypeTest.fails l.test h.exc_type) (take l.handler-index l.handler-items) ≡ false
