use Rattle.abc_objects.proofs.Opened.{scope_made}
use Rattle.abc_objects.proofs.arena.Arena.global_scope.Goals as goal

pub returns-clause-is : goal.returns-clause-is
returns-clause-is c = λ l s b. scope_made l c.args.self.now c.args.script s b
