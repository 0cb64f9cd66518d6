use Rattle.std.proofs.Common.{◌≡◌, None, subst}
use Rattle.abc_machine.specs.Machines.{Opened}
use Rattle.abc_machine.specs.OneRun.{LeavesRun}
use Rattle.abc_session.proofs.session.Session.start.Goals as goal

pub returns-clause-leaves : goal.returns-clause-leaves
returns-clause-leaves g c =
    subst (λ (m : Opened). m.ended ≡ None → LeavesRun m c.run.new.self (g.H.Host.formulas c.args.host.now) c.args.fuel c.run.result) c.self.view_is c.run.ensures.leaves
